-- A vector of bytes that is compared with zeros.
use Rattle.std.proofs.Common.{◌≡◌, ℕ, ◌+◌, ◌<◌, ◌≤◌, List, not, eqb, true, false, length, map, drop, get_or, arith, Bool, refl}
use Rattle.std.proofs.lemmas.Bool.{eqb-true}
use Rattle.std.proofs.lemmas.List.{length-drop, length-take-le}
use Rattle.std.proofs.lemmas.Simd.{none_from_empty_mask}
use lib.Lanes.{mask_l, chunk}

-- the mask says which bytes are not zero
abbrev pub differs : ℕ → ℕ → Bool
differs a b = not (eqb a b)

same_of : (x : ℕ) → differs x 0 ≡ false → x ≡ 0
same_of x e = eqb-true x 0 (is (eqb x 0) e) where
  is : (b : Bool) → not b ≡ false → b ≡ true
  is true e = refl
  is false e = absurd (cc e)

pub length-chunk : (n : ℕ) (xs : List ℕ) (at : ℕ) → at + n ≤ length xs → length (chunk at n xs) ≡ n
length-chunk n xs at room = let ld = length-drop at xs in length-take-le n (drop at xs) (omega arith)

pub zeros_of : (n : ℕ) (xs : List ℕ) (at : ℕ) → at + n ≤ length xs → mask_l (map (λ x. differs x 0) (chunk at n xs)) ≡ 0
    → (j : ℕ) → at ≤ j → j < at + n → get_or xs j 0 ≡ 0
zeros_of n xs at room none j low high = same_of (get_or xs j 0) (none_from_empty_mask (λ x. differs x 0) xs at n 0 room none j low high)
