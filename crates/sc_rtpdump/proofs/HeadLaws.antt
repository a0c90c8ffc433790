-- The eight bytes before a record's body, and the numbers that they spell.
use Rattle.std.proofs.Common.{◌≡◌, ℕ, ◌^◌, ◌<◌, List, [], ◌∷◌, ◌++◌, length, get_or, refl, sym, ap, ◌∙◌, arith}
use Rattle.std.proofs.lemmas.Nat.{be_bytes_2, be_bytes_4, from_be_bytes-to_be_bytes_2}
use Rattle.std.specs.Int.{w16, w32, to_be_bytes, from_be_bytes}
use Rattle.sc_rtp.proofs.WordLaws.{two_fit, four_fit}
use Rattle.sc_rtpdump.specs.Record.{head_bytes, length_field}

-- eight bytes, in the three fields
abbrev pub fields_of : List ℕ → List ℕ
fields_of bs =
    (get_or bs 0 0 ∷ get_or bs 1 0 ∷ [])
    ++ ((get_or bs 2 0 ∷ get_or bs 3 0 ∷ []) ++ (get_or bs 4 0 ∷ get_or bs 5 0 ∷ get_or bs 6 0 ∷ get_or bs 7 0 ∷ []))

eight : (bs : List ℕ) → length bs ≡ 8 → bs ≡ fields_of bs
eight (a ∷ b ∷ c ∷ d ∷ e ∷ f ∷ g ∷ h ∷ []) size = refl
eight (a ∷ b ∷ c ∷ d ∷ e ∷ f ∷ g ∷ h ∷ i ∷ bs) size = absurd (omega arith)
eight (a ∷ b ∷ c ∷ d ∷ e ∷ f ∷ g ∷ []) size = absurd (omega arith)
eight (a ∷ b ∷ c ∷ d ∷ e ∷ f ∷ []) size = absurd (omega arith)
eight (a ∷ b ∷ c ∷ d ∷ e ∷ []) size = absurd (omega arith)
eight (a ∷ b ∷ c ∷ d ∷ []) size = absurd (omega arith)
eight (a ∷ b ∷ c ∷ []) size = absurd (omega arith)
eight (a ∷ b ∷ []) size = absurd (omega arith)
eight (a ∷ []) size = absurd (omega arith)
eight [] size = absurd (omega arith)

-- the numbers that eight bytes spell are spelled by them
pub head_bytes-from : (bs : List ℕ) (len plen offset : ℕ) → length bs ≡ 8 → ((i : ℕ) → get_or bs i 0 < 256)
    → len ≡ from_be_bytes w16 (get_or bs 0 0 ∷ get_or bs 1 0 ∷ [])
    → plen ≡ from_be_bytes w16 (get_or bs 2 0 ∷ get_or bs 3 0 ∷ [])
    → offset ≡ from_be_bytes w32 (get_or bs 4 0 ∷ get_or bs 5 0 ∷ get_or bs 6 0 ∷ get_or bs 7 0 ∷ [])
    → bs ≡ head_bytes len plen offset
head_bytes-from bs len plen offset size fits a b c =
    let first = be_bytes_2 (get_or bs 0 0 ∷ get_or bs 1 0 ∷ []) len refl (two_fit _ _ (fits 0) (fits 1)) a in
    let second = be_bytes_2 (get_or bs 2 0 ∷ get_or bs 3 0 ∷ []) plen refl (two_fit _ _ (fits 2) (fits 3)) b in
    let third = be_bytes_4 (get_or bs 4 0 ∷ get_or bs 5 0 ∷ get_or bs 6 0 ∷ get_or bs 7 0 ∷ []) offset refl (four_fit _ _ _ _ (fits 4) (fits 5) (fits 6) (fits 7)) c in
    eight bs size
    ∙ ap (λ l. l ++ ((get_or bs 2 0 ∷ get_or bs 3 0 ∷ []) ++ (get_or bs 4 0 ∷ get_or bs 5 0 ∷ get_or bs 6 0 ∷ get_or bs 7 0 ∷ []))) (sym first)
    ∙ ap (λ l. to_be_bytes w16 len ++ (l ++ (get_or bs 4 0 ∷ get_or bs 5 0 ∷ get_or bs 6 0 ∷ get_or bs 7 0 ∷ []))) (sym second)
    ∙ ap (λ l. to_be_bytes w16 len ++ (to_be_bytes w16 plen ++ l)) (sym third)

-- the length that stands in a head, whatever follows
pub length_field-head : (len plen offset : ℕ) (rest : List ℕ) → len < 2 ^ 16 → length_field (head_bytes len plen offset ++ rest) ≡ len
unfolding length_field
length_field-head len plen offset rest fits = from_be_bytes-to_be_bytes_2 len fits

pub length_field-spelled : (bytes : List ℕ) (len plen offset : ℕ) → bytes ≡ head_bytes len plen offset → len < 2 ^ 16 → length_field bytes ≡ len
unfolding length_field
length_field-spelled bytes len plen offset e fits = ap length_field e ∙ from_be_bytes-to_be_bytes_2 len fits
