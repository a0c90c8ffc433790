-- From a test that the checker computes over all numbers below n to each of them.
use Rattle.std.proofs.Common.{◌≡◌, ℕ, zero, suc, ◌+◌, ◌<◌, Bool, true, List, [], ◌∷◌, get_or, length, ◌∙◌, subst, arith}
use Rattle.std.specs.List.{range_with_len, list_all}
use Rattle.std.proofs.lemmas.Bool.{and_parts}
use Rattle.std.proofs.lemmas.List.FromFn.{length-range_with_len, get_or-range_with_len}

all_at : (p : ℕ → Bool) (xs : List ℕ) → list_all p xs ≡ true → (i : ℕ) → i < length xs → p (get_or xs i 0) ≡ true
all_at p [] all i lt = absurd (omega arith)
all_at p (x ∷ xs) all zero lt = (and_parts (p x) (list_all p xs) all).0
all_at p (x ∷ xs) all (suc i) lt = all_at p xs (and_parts (p x) (list_all p xs) all).1 i (omega arith)

pub all_below : (p : ℕ → Bool) (n : ℕ) → list_all p (range_with_len 0 n) ≡ true → (i : ℕ) → i < n → p i ≡ true
all_below p n all i lt =
    let e : 0 + i ≡ i = omega arith in
    subst (λ (k : ℕ). p k ≡ true) (get_or-range_with_len 0 n i 0 lt ∙ e)
    (all_at p (range_with_len 0 n) all i (omega (arith, length-range_with_len 0 n)))

pub all_pairs_below : (p : ℕ → ℕ → Bool) (n : ℕ) → list_all (λ i. list_all (p i) (range_with_len 0 n)) (range_with_len 0 n) ≡ true
    → (i j : ℕ) → i < n → j < n → p i j ≡ true
all_pairs_below p n all i j hi hj = all_below (p i) n (all_below (λ i. list_all (p i) (range_with_len 0 n)) n all i hi) j hj

pub all_triples_below : (p : ℕ → ℕ → ℕ → Bool) (n : ℕ)
    → list_all (λ i. list_all (λ j. list_all (p i j) (range_with_len 0 n)) (range_with_len 0 n)) (range_with_len 0 n) ≡ true
    → (i j k : ℕ) → i < n → j < n → k < n → p i j k ≡ true
all_triples_below p n all i j k hi hj hk =
    all_below (p i j) n (all_pairs_below (λ i j. list_all (p i j) (range_with_len 0 n)) n all i j hi hj) k hk
