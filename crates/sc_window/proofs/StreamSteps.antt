-- How the numbers of a spelled stream are put together, and that they are the blocks of a stream again.
use Rattle.std.proofs.Common.{◌≡◌, ℕ, ◌+◌, ◌-◌, ◌*◌, ◌/◌, ◌%◌, ◌<◌, ◌≤◌, Bool, true, false, List, [], ◌∷◌, ◌++◌, length, get_or, map, take, drop, replicate, All, refl, sym, ap, ap₂, ◌∙◌, arith}
use Rattle.std.proofs.Math.Nat.{mul-div_cancel, mul-mod_left}
use Rattle.std.proofs.Math.Seq.{take-append_seam}
use Rattle.std.proofs.lemmas.List.{append-nil, append_assoc, drop_all, length-append, length-map, map-append, drop-drop, drop_more, drop_at}
use Rattle.std.proofs.lemmas.List.Elements.{All-head, All-tail, All-map}
use Rattle.sc_channel.specs.Flags.{set_count}
use Rattle.sc_matrix.specs.Layout.{cut}
use Rattle.sc_matrix.specs.Vector.{IsVector}
use Rattle.sc_window.specs.Window.{symbols_of, spelled}
use Rattle.sc_window.proofs.SpellLaws.{lost_width, kept_width, length-spelled, blocks-spelled}

-- ---- what is left of a vector while its stream is written
module _ (k t : ℕ) (class : List Bool) (width from : ℕ) (lt : t < length class) (left : width ≡ from + k * set_count (drop t class)) where
  pub left_lost : get_or class t false ≡ true → width ≡ from + k + k * set_count (drop (t + 1) class)
  left_lost lost =
      let here = drop_more class t false lt ∙ ap (λ (flag : Bool). flag ∷ drop (t + 1) class) lost in
      let w = lost_width k (k * set_count (drop t class)) (drop (t + 1) class) (ap (λ (flags : List Bool). k * set_count flags) here) in
      omega arith

  pub left_kept : get_or class t false ≡ false → width ≡ from + k * set_count (drop (t + 1) class)
  left_kept kept =
      let here = drop_more class t false lt ∙ ap (λ (flag : Bool). flag ∷ drop (t + 1) class) kept in
      let w = kept_width k (k * set_count (drop t class)) (drop (t + 1) class) (ap (λ (flags : List Bool). k * set_count flags) here) in
      omega arith

module _ {A : Type 0} (zero : A) (number : A → ℕ) (k t from : ℕ) (class : List Bool) (v : List A) (now whole : List ℕ) (lt : t < length class)
    (e : now ++ map number (symbols_of (spelled zero k (drop t class) (drop from v))) ≡ whole) where
  pub numbers_lost : get_or class t false ≡ true
      → (now ++ map number (take ((from + k) - from) (drop from v))) ++ map number (symbols_of (spelled zero k (drop (t + 1) class) (drop (from + k) v))) ≡ whole
  numbers_lost lost =
      let here = drop_more class t false lt ∙ ap (λ (flag : Bool). flag ∷ drop (t + 1) class) lost in
      let rest = symbols_of (spelled zero k (drop (t + 1) class) (drop (from + k) v)) in
      let all : (from + k) - from ≡ k = omega arith in
      ap (λ (n : ℕ). (now ++ map number (take n (drop from v))) ++ map number rest) all
      ∙ append_assoc now (map number (take k (drop from v))) (map number rest)
      ∙ ap (λ (xs : List ℕ). now ++ xs)
      (sym (map-append number (take k (drop from v)) rest)
      ∙ ap (λ (u : List A). map number (take k (drop from v) ++ symbols_of (spelled zero k (drop (t + 1) class) u))) (sym (drop-drop k from v))
      ∙ ap (λ (flags : List Bool). map number (symbols_of (spelled zero k flags (drop from v)))) (sym here))
      ∙ e

  pub numbers_kept : get_or class t false ≡ false
      → (now ++ map number (replicate k zero)) ++ map number (symbols_of (spelled zero k (drop (t + 1) class) (drop from v))) ≡ whole
  numbers_kept kept =
      let here = drop_more class t false lt ∙ ap (λ (flag : Bool). flag ∷ drop (t + 1) class) kept in
      let rest = symbols_of (spelled zero k (drop (t + 1) class) (drop from v)) in
      append_assoc now (map number (replicate k zero)) (map number rest)
      ∙ ap (λ (xs : List ℕ). now ++ xs)
      (sym (map-append number (replicate k zero) rest) ∙ ap (λ (flags : List Bool). map number (symbols_of (spelled zero k flags (drop from v)))) (sym here))
      ∙ e

-- at the end nothing is left
pub numbers_all : {A : Type 0} (zero : A) (number : A → ℕ) (k t : ℕ) (class : List Bool) (v : List A) (now whole : List ℕ) → length class ≤ t
    → now ++ map number (symbols_of (spelled zero k (drop t class) v)) ≡ whole → now ≡ whole
numbers_all zero number k t class v now whole past e =
    sym (append-nil now) ∙ ap (λ (flags : List Bool). now ++ map number (symbols_of (spelled zero k flags v))) (sym (drop_all t class past)) ∙ e

-- ---- the blocks of a list of symbols
pub length-symbols_of : {A : Type 0} {P : A → Type 0} (k : ℕ) (xs : List (List A)) → All (IsVector P k) xs → length (symbols_of xs) ≡ length xs * k
length-symbols_of k [] h = omega arith
length-symbols_of {P = P} k (x ∷ xs) h =
    let w = (All-head (IsVector P k) x xs h).width in
    let l = length-symbols_of k xs (All-tail (IsVector P k) x xs h) in
    let a = length-append x (symbols_of xs) in
    omega arith

pub cut-symbols_of : {A : Type 0} {P : A → Type 0} (number : A → ℕ) (k : ℕ) (xs : List (List A)) → All (IsVector P k) xs → cut (length xs) k (map number (symbols_of xs)) ≡ map (map number) xs
cut-symbols_of number k [] h = refl
cut-symbols_of {P = P} number k (x ∷ xs) h =
    let w : length (map number x) ≡ k = length-map x number ∙ (All-head (IsVector P k) x xs h).width in
    let rest = map number (symbols_of xs) in
    let first : take k (map number x ++ rest) ≡ map number x = ap (λ (n : ℕ). take n (map number x ++ rest)) (sym w) ∙ take-append_seam (map number x) rest in
    ap (λ (ns : List ℕ). take k ns ∷ cut (length xs) k (drop k ns)) (map-append number x (symbols_of xs))
    ∙ ap₂ (λ (y : List ℕ) (ns : List ℕ). y ∷ cut (length xs) k ns) first (drop_at (map number x) rest k w)
    ∙ ap (λ (ys : List (List ℕ)). map number x ∷ ys) (cut-symbols_of number k xs (All-tail (IsVector P k) x xs h))

-- the blocks of the numbers of a spelled stream
abbrev AnyEntry : {A : Type 0} → A → Type 0
AnyEntry x = Unit {0}

module _ {A : Type 0} (zero : A) (number : A → ℕ) (k : ℕ) (class : List Bool) (v : List A) (ns : List ℕ) (some : 1 ≤ k) (width : length v ≡ k * set_count class)
    (e : ns ≡ map number (symbols_of (spelled zero k class v))) where
  spelled_blocks : All (IsVector AnyEntry k) (spelled zero k class v)
  spelled_blocks = blocks-spelled zero tt k class v (record { width = width; entries = λ i d lt. tt })

  length-numbers : length ns ≡ length (spelled zero k class v) * k
  length-numbers = ap length e ∙ length-map (symbols_of (spelled zero k class v)) number ∙ length-symbols_of k (spelled zero k class v) spelled_blocks

  pub whole_blocks : length ns % k ≡ 0
  whole_blocks = ap (λ (n : ℕ). n % k) length-numbers ∙ mul-mod_left (length (spelled zero k class v)) k

  pub blocks_again : cut (length ns / k) k ns ≡ map (map number) (spelled zero k class v)
  blocks_again =
      let count : length ns / k ≡ length (spelled zero k class v) = ap (λ (n : ℕ). n / k) length-numbers ∙ mul-div_cancel (length (spelled zero k class v)) some in
      ap₂ (λ (n : ℕ) (ms : List ℕ). cut n k ms) count e ∙ cut-symbols_of number k (spelled zero k class v) spelled_blocks

-- the sizes of a stream of numbers
pub length-numbers_spelled : {A : Type 0} (zero : A) (number : A → ℕ) (k : ℕ) (class : List Bool) (v : List A) → length (map (map number) (spelled zero k class v)) ≡ length class
length-numbers_spelled zero number k class v = length-map (spelled zero k class v) (map number) ∙ length-spelled zero k class v

pub widths-numbers_spelled : {A : Type 0} (zero : A) (number : A → ℕ) (k : ℕ) (class : List Bool) (v : List A) → length v ≡ k * set_count class → All (λ block. length block ≡ k) (map (map number) (spelled zero k class v))
widths-numbers_spelled zero number k class v width =
    let blocks = blocks-spelled {IsElement = AnyEntry} zero tt k class v (record { width = width; entries = λ i d lt. tt }) in
    All-map (λ (block : List ℕ). length block ≡ k) (map number) (spelled zero k class v) (λ i d lt. length-map (get_or (spelled zero k class v) i d) number ∙ (blocks i d lt).width)
