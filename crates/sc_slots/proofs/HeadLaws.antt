-- The head of a protected packet, and the 24 bytes that spell it.
use Rattle.std.proofs.Common.{◌≡◌, ℕ, true, false, not, bytes_eq, ◌+◌, ◌<◌, ◌≤◌, List, [], ◌∷◌, ◌++◌, length, take, drop, get_or, refl, sym, ap, ◌∙◌, arith}
use Rattle.std.proofs.lemmas.Bool.{both_ways, not-true, not-false}
use Rattle.std.proofs.lemmas.Slice.Eq.{bytes_eq-Decides}
use Rattle.std.proofs.lemmas.Nat.{from_be_bytes-to_be_bytes_2, from_be_bytes-to_be_bytes_4}
use Rattle.std.specs.Int.{w16, w32, to_be_bytes}
use Rattle.sc_rtp.specs.Reading.{AreBytes}
use Rattle.sc_rtp.proofs.WordLaws.{to_be_bytes-number16, to_be_bytes-number32, number16-fits, number32-fits}
use Rattle.sc_slots.specs.Slot.{SlotHead, FitsFields, slot_head_bytes, slot_head_of}

-- the bytes that are the same in each head
abbrev pub first_bytes : List ℕ
first_bytes = 128 ∷ 96 ∷ []

abbrev pub mark_bytes : List ℕ
mark_bytes = 83 ∷ 67 ∷ 68 ∷ 49 ∷ 83 ∷ 67 ∷ 1 ∷ []

-- what a test that bytes differ says
pub differs : (xs ys : List ℕ) → true ≡ not (bytes_eq xs ys) → xs ≡ ys → ⊥
differs xs ys d e = both_ways (bytes_eq xs ys) (not-true (bytes_eq xs ys) (sym d)) ((bytes_eq-Decides xs ys).1 e)

pub agrees : (xs ys : List ℕ) → false ≡ not (bytes_eq xs ys) → xs ≡ ys
agrees xs ys d = (bytes_eq-Decides xs ys).0 (not-false (bytes_eq xs ys) (sym d))

-- ---- what is spelled is read

pub same_head : (s t k r e m n : ℕ) (h : SlotHead) → s ≡ h.sequence → t ≡ h.timestamp → k ≡ h.k → r ≡ h.r → e ≡ h.end → m ≡ h.m → n ≡ h.number
    → (let g : SlotHead = record { sequence = s; timestamp = t; k = k; r = r; end = e; m = m; number = n } in g)
    ≡ record { sequence = h.sequence; timestamp = h.timestamp; k = h.k; r = h.r; end = h.end; m = h.m; number = h.number }
same_head s t k r e m n h a b c d f i j = cc

pub slot_head_of-spelled : (h : SlotHead) (rest : List ℕ) → FitsFields h → slot_head_of (slot_head_bytes h ++ rest) ≡ h
unfolding slot_head_of slot_head_bytes
slot_head_of-spelled h rest fits =
    same_head _ _ _ _ _ _ _ h
    (from_be_bytes-to_be_bytes_2 h.sequence fits.sequence)
    (from_be_bytes-to_be_bytes_4 h.timestamp fits.timestamp)
    refl
    refl
    refl
    (from_be_bytes-to_be_bytes_2 h.m fits.m)
    (from_be_bytes-to_be_bytes_4 h.number fits.number)

pub behind-spelled : (h : SlotHead) (rest : List ℕ) → drop 24 (slot_head_bytes h ++ rest) ≡ rest
unfolding slot_head_bytes
behind-spelled h rest = refl

first-spelled : (h : SlotHead) (rest : List ℕ) → take 2 (slot_head_bytes h ++ rest) ≡ first_bytes
unfolding slot_head_bytes
first-spelled h rest = refl

marks-spelled : (h : SlotHead) (rest : List ℕ) → take 7 (drop 8 (slot_head_bytes h ++ rest)) ≡ mark_bytes
unfolding slot_head_bytes
marks-spelled h rest = refl

pub length-slot_head_bytes : (h : SlotHead) (rest : List ℕ) → length (slot_head_bytes h ++ rest) ≡ 24 + length rest
unfolding slot_head_bytes
length-slot_head_bytes h rest = omega arith

pub no_head-short : (bytes rest : List ℕ) (h : SlotHead) → length bytes < 24 → bytes ≡ slot_head_bytes h ++ rest → ⊥
no_head-short bytes rest h short e = omega (arith, short, ap length e ∙ length-slot_head_bytes h rest)

pub no_head-first : (bytes rest : List ℕ) (h : SlotHead) → (take 2 bytes ≡ first_bytes → ⊥) → bytes ≡ slot_head_bytes h ++ rest → ⊥
no_head-first bytes rest h other e = other (ap (λ (l : List ℕ). take 2 l) e ∙ first-spelled h rest)

pub no_head-marks : (bytes rest : List ℕ) (h : SlotHead) → (take 7 (drop 8 bytes) ≡ mark_bytes → ⊥) → bytes ≡ slot_head_bytes h ++ rest → ⊥
no_head-marks bytes rest h other e = other (ap (λ (l : List ℕ). take 7 (drop 8 l)) e ∙ marks-spelled h rest)

-- ---- what is read is spelled

pub slot_head_of-fits : (bytes : List ℕ) → AreBytes bytes → FitsFields (slot_head_of bytes)
unfolding slot_head_of
slot_head_of-fits bytes are = record {
  sequence = number16-fits _ _ (are 2) (are 3);
  timestamp = number32-fits _ _ _ _ (are 4) (are 5) (are 6) (are 7);
  k = are 15;
  r = are 16;
  end = are 17;
  m = number16-fits _ _ (are 18) (are 19);
  number = number32-fits _ _ _ _ (are 20) (are 21) (are 22) (are 23);
}

-- the first 24 of bytes
parts : List ℕ → List ℕ → List ℕ → List ℕ → List ℕ → List ℕ → List ℕ → List ℕ → List ℕ → List ℕ → List ℕ
parts first sequence timestamp marks k r e m number rest =
    first ++ (sequence ++ (timestamp ++ (marks ++ (k ++ (r ++ (e ++ (m ++ (number ++ rest))))))))

twenty_four : (bytes : List ℕ) → 24 ≤ length bytes
    → parts (take 2 bytes) (get_or bytes 2 0 ∷ get_or bytes 3 0 ∷ []) (get_or bytes 4 0 ∷ get_or bytes 5 0 ∷ get_or bytes 6 0 ∷ get_or bytes 7 0 ∷ [])
    (take 7 (drop 8 bytes)) (get_or bytes 15 0 ∷ []) (get_or bytes 16 0 ∷ []) (get_or bytes 17 0 ∷ []) (get_or bytes 18 0 ∷ get_or bytes 19 0 ∷ [])
    (get_or bytes 20 0 ∷ get_or bytes 21 0 ∷ get_or bytes 22 0 ∷ get_or bytes 23 0 ∷ []) (drop 24 bytes) ≡ bytes
unfolding parts
twenty_four (a ∷ b ∷ c ∷ d ∷ e ∷ f ∷ g ∷ h ∷ i ∷ j ∷ k ∷ l ∷ m ∷ n ∷ o ∷ p ∷ q ∷ r ∷ s ∷ t ∷ u ∷ v ∷ w ∷ x ∷ bytes) size = refl
twenty_four bytes size = absurd (omega arith)

spelled-parts : (h : SlotHead) (rest : List ℕ)
    → slot_head_bytes h ++ rest ≡ parts first_bytes (to_be_bytes w16 h.sequence) (to_be_bytes w32 h.timestamp) mark_bytes (h.k ∷ []) (h.r ∷ []) (h.end ∷ []) (to_be_bytes w16 h.m) (to_be_bytes w32 h.number) rest
unfolding parts slot_head_bytes
spelled-parts h rest = refl

pub slot_head_bytes-of : (bytes : List ℕ) → AreBytes bytes → 24 ≤ length bytes → take 2 bytes ≡ first_bytes → take 7 (drop 8 bytes) ≡ mark_bytes
    → slot_head_bytes (slot_head_of bytes) ++ drop 24 bytes ≡ bytes
unfolding slot_head_of
slot_head_bytes-of bytes are size first marks =
    let g = get_or bytes in
    let rest : List ℕ = drop 24 bytes in
    let sequence = to_be_bytes-number16 (g 2 0) (g 3 0) (are 2) (are 3) in
    let timestamp = to_be_bytes-number32 (g 4 0) (g 5 0) (g 6 0) (g 7 0) (are 4) (are 5) (are 6) (are 7) in
    let m = to_be_bytes-number16 (g 18 0) (g 19 0) (are 18) (are 19) in
    let number = to_be_bytes-number32 (g 20 0) (g 21 0) (g 22 0) (g 23 0) (are 20) (are 21) (are 22) (are 23) in
    let h = slot_head_of bytes in
    let spelled = spelled-parts h rest in
    spelled
    ∙ ap (λ (l : List ℕ). parts first_bytes l (to_be_bytes w32 h.timestamp) mark_bytes (h.k ∷ []) (h.r ∷ []) (h.end ∷ []) (to_be_bytes w16 h.m) (to_be_bytes w32 h.number) rest) sequence
    ∙ ap (λ (l : List ℕ). parts first_bytes (g 2 0 ∷ g 3 0 ∷ []) l mark_bytes (h.k ∷ []) (h.r ∷ []) (h.end ∷ []) (to_be_bytes w16 h.m) (to_be_bytes w32 h.number) rest) timestamp
    ∙ ap (λ (l : List ℕ). parts first_bytes (g 2 0 ∷ g 3 0 ∷ []) (g 4 0 ∷ g 5 0 ∷ g 6 0 ∷ g 7 0 ∷ []) mark_bytes (h.k ∷ []) (h.r ∷ []) (h.end ∷ []) l (to_be_bytes w32 h.number) rest) m
    ∙ ap (λ (l : List ℕ). parts first_bytes (g 2 0 ∷ g 3 0 ∷ []) (g 4 0 ∷ g 5 0 ∷ g 6 0 ∷ g 7 0 ∷ []) mark_bytes (h.k ∷ []) (h.r ∷ []) (h.end ∷ []) (g 18 0 ∷ g 19 0 ∷ []) l rest) number
    ∙ ap (λ (l : List ℕ). parts l (g 2 0 ∷ g 3 0 ∷ []) (g 4 0 ∷ g 5 0 ∷ g 6 0 ∷ g 7 0 ∷ []) mark_bytes (h.k ∷ []) (h.r ∷ []) (h.end ∷ []) (g 18 0 ∷ g 19 0 ∷ []) (g 20 0 ∷ g 21 0 ∷ g 22 0 ∷ g 23 0 ∷ []) rest) (sym first)
    ∙ ap (λ (l : List ℕ). parts (take 2 bytes) (g 2 0 ∷ g 3 0 ∷ []) (g 4 0 ∷ g 5 0 ∷ g 6 0 ∷ g 7 0 ∷ []) l (h.k ∷ []) (h.r ∷ []) (h.end ∷ []) (g 18 0 ∷ g 19 0 ∷ []) (g 20 0 ∷ g 21 0 ∷ g 22 0 ∷ g 23 0 ∷ []) rest) (sym marks)
    ∙ twenty_four bytes size
