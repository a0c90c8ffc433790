-- Bytes that are all zero.
use Rattle.std.proofs.Common.{◌≡◌, ℕ, zero, suc, ◌+◌, ◌<◌, below_more, nat_eq, ◌⊎◌, inl, inr, List, [], ◌∷◌, length, drop, replicate, get_or, refl, sym, ap, ◌∙◌, arith}
use Rattle.std.proofs.lemmas.Bool.{cases_Bool, eqb-true, eqb-false}
use Rattle.std.proofs.lemmas.Nat.{le_or_l, le_or_r}
use Rattle.std.proofs.lemmas.List.{length-replicate, get_or-replicate}
use Rattle.std.proofs.lemmas.Grind.{same_number_lists}
use Rattle.std.specs.Bool.{MatchBool}
use Rattle.std.specs.Int.RustNames.{bit_or}
use Rattle.sc_slots.specs.Frame.{IsBlank}

-- as many zeros as there are
pub blank-replicate : (xs : List ℕ) (n : ℕ) → xs ≡ replicate n 0 → IsBlank xs
blank-replicate xs n e = e ∙ ap (λ (k : ℕ). replicate k 0) (sym (ap length e ∙ length-replicate n 0))

-- byte by byte
pub blank-each : (xs : List ℕ) → ((k : ℕ) → k < length xs → get_or xs k 0 ≡ 0) → IsBlank xs
blank-each xs each =
    same_number_lists xs (replicate (length xs) 0) (sym (length-replicate (length xs) 0))
    (λ k small. each k small ∙ sym (get_or-replicate (length xs) k 0 0 small))

pub each-blank : (xs : List ℕ) (k : ℕ) → IsBlank xs → k < length xs → get_or xs k 0 ≡ 0
each-blank xs k e small = ap (λ l. get_or l k 0) e ∙ get_or-replicate (length xs) k 0 0 small

-- they are or they aren't
pub blank_or_not : (xs : List ℕ) → IsBlank xs ⊎ (IsBlank xs → ⊥)
blank_or_not [] = inl refl
blank_or_not (zero ∷ xs) = elim (blank_or_not xs) [ inl e ↦ inl (ap (λ (l : List ℕ). 0 ∷ l) e) | inr n ↦ inr (λ e. n (ap (λ (l : List ℕ). drop 1 l) e)) ]
blank_or_not (suc x ∷ xs) = inr (λ e. let first : suc x ≡ 0 = ap (λ (l : List ℕ). get_or l 0 0) e in omega (arith, first))

pub blank-stable : (xs : List ℕ) → ((IsBlank xs → ⊥) → ⊥) → IsBlank xs
blank-stable xs wrong = elim (blank_or_not xs) [ inl e ↦ e | inr n ↦ absurd (wrong n) ]

-- ---- looking at them one by one

-- no bit is set exactly where each of the first i is 0
abbrev pub NoneSet : List ℕ → ℕ → ℕ → Type 0
NoneSet xs bits i = (bits ≡ 0 → (k : ℕ) → k < i → get_or xs k 0 ≡ 0) × (((k : ℕ) → k < i → get_or xs k 0 ≡ 0) → bits ≡ 0)

pub none_set-more : (xs : List ℕ) (bits i : ℕ) → NoneSet xs bits i → NoneSet xs (bit_or bits (get_or xs i 0)) (i + 1)
none_set-more xs bits i inv = (
  λ none.
      let a : bits ≡ 0 = omega (arith, none, le_or_l bits (get_or xs i 0)) in
      let b : get_or xs i 0 ≡ 0 = omega (arith, none, le_or_r bits (get_or xs i 0)) in
      below_more (λ (k : ℕ). get_or xs k 0 ≡ 0) i (inv.0 a) b,
  λ each.
      let a : bits ≡ 0 = inv.1 (λ k small. each k (omega (arith, small))) in
      let b : get_or xs i 0 ≡ 0 = each i (omega arith) in
      ap (λ (n : ℕ). bit_or n (get_or xs i 0)) a ∙ ap (λ (n : ℕ). bit_or 0 n) b,
)

pub none_set-all : (xs : List ℕ) (bits i : ℕ) → i ≡ length xs → NoneSet xs bits i → MatchBool (nat_eq bits 0) (IsBlank xs) (IsBlank xs → ⊥)
none_set-all xs bits i all inv = elim (cases_Bool (nat_eq bits 0)) [
  | inl t ↦ rw t (blank-each xs (λ k small. inv.0 (eqb-true bits 0 t) k (omega (arith, small, all))))
  | inr f ↦ rw f (λ e. eqb-false bits 0 f (inv.1 (λ k small. each-blank xs k e (omega (arith, small, all)))))
]
