-- Laws of sums by xor, of numbers of any size.
use Rattle.std.proofs.Common.{◌≡◌, ℕ, zero, suc, ◌+◌, ◌<◌, ◌≤◌, bit_xor, refl, sym, ap, ap₂, ◌∙◌, arith}
use Rattle.std.specs.Int.Bits.{xor_assoc, xor_zero_l, xor_zero_r}
use Rattle.sc_code.specs.Parity.{sum_below}

abbrev xor_below : ℕ → (ℕ → ℕ) → ℕ
xor_below n f = sum_below 0 bit_xor n f

-- sums of equal terms are equal
pub xor_below-same : (n : ℕ) (f g : ℕ → ℕ) → ((i : ℕ) → i < n → f i ≡ g i) → xor_below n f ≡ xor_below n g
xor_below-same zero f g e = refl
xor_below-same (suc n) f g e = ap₂ bit_xor (xor_below-same n f g (λ i h. e i (omega arith))) (e n (omega arith))

-- a sum of zeros
pub xor_below-zeros : (n : ℕ) (f : ℕ → ℕ) → ((i : ℕ) → i < n → f i ≡ 0) → xor_below n f ≡ 0
xor_below-zeros zero f e = refl
xor_below-zeros (suc n) f e = ap₂ bit_xor (xor_below-zeros n f (λ i h. e i (omega arith))) (e n (omega arith))

-- zeros at the end don't count
pub xor_below-longer : (n more : ℕ) (f : ℕ → ℕ) → ((i : ℕ) → n ≤ i → i < n + more → f i ≡ 0) → xor_below (n + more) f ≡ xor_below n f
xor_below-longer n zero f e = let same : n + zero ≡ n = omega arith in ap (λ (k : ℕ). xor_below k f) same
xor_below-longer n (suc more) f e =
    let same : n + suc more ≡ suc (n + more) = omega arith in
    let last : f (n + more) ≡ 0 = e (n + more) (omega arith) (omega arith) in
    ap (λ (k : ℕ). xor_below k f) same
    ∙ ap₂ bit_xor (xor_below-longer n more f (λ i le lt. e i le (omega arith))) last ∙ xor_zero_r (xor_below n f)

-- the first term set apart
pub xor_below-first : (n : ℕ) (f : ℕ → ℕ) → xor_below (suc n) f ≡ bit_xor (f 0) (xor_below n (λ i. f (suc i)))
xor_below-first zero f = xor_zero_l (f 0) ∙ sym (xor_zero_r (f 0))
xor_below-first (suc n) f =
    ap (λ (x : ℕ). bit_xor x (f (suc n))) (xor_below-first n f) ∙ xor_assoc (f 0) (xor_below n (λ i. f (suc i))) (f (suc n))
