-- The sum of a slice and the image of another under f, as it is made from the front on.
use Rattle.std.proofs.Common.{◌≡◌, ◌≢◌, ℕ, ◌+◌, ◌<◌, ◌≤◌, inl, inr, List, length, get_or, set, bit_xor, sym, ap, subst, ◌∙◌, arith, get_or-set_same, get_or-set_other}
use Rattle.std.proofs.lemmas.Bool.{cases_eq}
use Rattle.std.proofs.lemmas.Grind.{same_number_lists}
use Rattle.sc_field.specs.Scale.{scaled_sum}
use Rattle.sc_field.proofs.ScaledSum.{length-scaled_sum, get_or-scaled_sum}

-- the places below i hold the sum, and the others what they held
pub record IsSumUpTo (f : ℕ → ℕ) (old src now : List ℕ) (i : ℕ) : Type 0 where
  pub done : (k : ℕ) → k < i → k < length old → get_or now k 0 ≡ bit_xor (get_or old k 0) (f (get_or src k 0))
  pub rest : (k : ℕ) → i ≤ k → get_or now k 0 ≡ get_or old k 0

pub one_more : (f : ℕ → ℕ) (old src now : List ℕ) (i : ℕ) → length now ≡ length old → i < length now → IsSumUpTo f old src now i
    → IsSumUpTo f old src (set now i (bit_xor (get_or now i 0) (f (get_or src i 0)))) (i + 1)
one_more f old src now i same lt sum =
    let v : ℕ = bit_xor (get_or now i 0) (f (get_or src i 0)) in
    record {
      done = λ k h in_old.
          elim (cases_eq k i) [
            | inl e ↦ subst (λ (j : ℕ). get_or (set now i v) j 0 ≡ bit_xor (get_or old j 0) (f (get_or src j 0))) (sym e) (get_or-set_same now i v 0 lt ∙ ap (λ (n : ℕ). bit_xor n (f (get_or src i 0))) (sum.rest i (omega arith)))
            | inr ne ↦ get_or-set_other now i k v 0 ne ∙ sum.done k (omega arith) in_old
          ];
      rest = λ k h. (let ne : k ≢ i = omega arith in get_or-set_other now i k v 0 ne ∙ sum.rest k (omega arith));
    }

pub all_done : (f : ℕ → ℕ) (old src now : List ℕ) (n : ℕ) → length now ≡ length old → length src ≡ length old → length old ≤ n → IsSumUpTo f old src now n → now ≡ scaled_sum f old src
all_done f old src now n same long le sum =
    same_number_lists now (scaled_sum f old src) (same ∙ sym (length-scaled_sum f old src))
    (λ k lt. sum.done k (omega arith) (omega arith) ∙ sym (get_or-scaled_sum f old src long k (omega arith)))
