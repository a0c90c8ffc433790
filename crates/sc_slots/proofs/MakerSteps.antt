-- A slot that follows a stream, spelled.
use Rattle.std.proofs.Common.{◌≡◌, ℕ, zero, suc, ◌*◌, List, [], ◌∷◌, ◌++◌, length, take, drop, sym, ap, ◌∙◌, arith, append_assoc, take-append-drop}
use Rattle.std.proofs.lemmas.List.{nil_from_length, length-drop}
use Rattle.std.specs.List.{concat}
use Rattle.sc_field.specs.Gf256.{gf256_product}
use Rattle.sc_matrix.specs.Layout.{cut}
use Rattle.sc_code.specs.Code.{Code}
use Rattle.sc_code.specs.Parity.{parity}
use Rattle.sc_slots.specs.declared.maker.Label.{Label}
use Rattle.sc_slots.specs.Slot.{Slot, slot_bytes}
use Rattle.sc_slots.specs.ProtectSteps.{next_slot, next_text}

-- the symbols of a block, one after the other, are the block
pub concat-cut : (n c : ℕ) (xs : List ℕ) → length xs ≡ n * c → concat (cut n c xs) ≡ xs
concat-cut zero c xs e = sym (nil_from_length xs (omega arith))
concat-cut (suc n) c xs e =
    let l : length (drop c xs) ≡ n * c = rw length-drop (omega arith) in
    ap (λ r. take c xs ++ r) (concat-cut n c (drop c xs) l) ∙ take-append-drop c xs

-- three pieces behind the bytes that wait
pub three_behind : (before a b c h x y r : List ℕ) → a ≡ before ++ h → b ≡ a ++ x → c ≡ b ++ y → h ++ (x ++ y) ≡ r → c ≡ before ++ r
three_behind before a b c h x y r ea eb ec er =
    ec ∙ ap (λ l. l ++ y) (eb ∙ ap (λ l. l ++ x) ea ∙ append_assoc before h x) ∙ append_assoc before (h ++ x) y
    ∙ ap (λ l. before ++ l) (append_assoc h x y ∙ er)

slot_with : (label : Label) (m m' : ℕ) (block par par' : List ℕ) → m ≡ m' → par ≡ par'
    → (let s : Slot = record { number = label.number; end = label.end; m = m; timestamp = label.timestamp; block = block; parity = par } in s)
    ≡ record { number = label.number; end = label.end; m = m'; timestamp = label.timestamp; block = block; parity = par' }
slot_with label m m' block par par' e f =
    ap (λ n. record { number = label.number; end = label.end; m = n; timestamp = label.timestamp; block = block; parity = par }) e
    ∙ ap (λ l. record { number = label.number; end = label.end; m = m'; timestamp = label.timestamp; block = block; parity = l }) f

pub slot_spelled : (code : Code ℕ) (width m k r : ℕ) (label : Label) (block par : List ℕ) (xs : List (List (List ℕ))) → k ≡ code.k → r ≡ code.r → width ≡ m → length par ≡ code.r * m
    → cut code.r width par ≡ parity 0 gf256_product code width (xs ++ cut code.k width block ∷ []) (length xs)
    → slot_bytes k r label.offset (record { number = label.number; end = label.end; m = m; timestamp = label.timestamp; block = block; parity = par }) ≡ next_text code width xs label block
unfolding next_text
slot_spelled code width m k r label block par xs ek er ew size is =
    let long : length par ≡ code.r * width = size ∙ ap (λ n. code.r * n) (sym ew) in
    let whole : par ≡ concat (parity 0 gf256_product code width (xs ++ cut code.k width block ∷ []) (length xs)) = sym (concat-cut code.r width par long) ∙ ap concat is in
    ap (λ n. slot_bytes n r label.offset (record { number = label.number; end = label.end; m = m; timestamp = label.timestamp; block = block; parity = par })) ek
    ∙ ap (λ n. slot_bytes code.k n label.offset (record { number = label.number; end = label.end; m = m; timestamp = label.timestamp; block = block; parity = par })) er
    ∙ ap (slot_bytes code.k code.r label.offset) (slot_with label m width block par (next_slot code width xs label block).parity (sym ew) whole)
