-- Xor on numbers: what is additive over it, and induction on the bits of a number.
use Rattle.std.proofs.Common.{◌≡◌, ℕ, zero, suc, ◌+◌, ◌-◌, ◌*◌, ◌^◌, ◌<◌, inl, inr, bit_xor, sym, ap, subst, ◌∙◌, arith, add-zero}
use Rattle.std.specs.Int.Bits.{xor_assoc, xor_self, xor_zero_r, xor_shifted}
use Rattle.std.proofs.Math.Nat.{pow-suc}
use Rattle.std.proofs.lemmas.Bool.{cases_lt}
use Rattle.std.proofs.lemmas.Nat.{xor_comm, xor_block, pow_pos}

pub xor_four : (a b c d : ℕ) → bit_xor (bit_xor a b) (bit_xor c d) ≡ bit_xor (bit_xor a c) (bit_xor b d)
xor_four a b c d =
    xor_assoc a b (bit_xor c d) ∙ ap (bit_xor a) (sym (xor_assoc b c d) ∙ ap (λ (n : ℕ). bit_xor n d) (xor_comm b c) ∙ xor_assoc c b d)
    ∙ sym (xor_assoc a c (bit_xor b d))

pub xor_twice : (x y : ℕ) → bit_xor (bit_xor x y) y ≡ x
xor_twice x y = xor_assoc x y y ∙ ap (bit_xor x) (xor_self y) ∙ xor_zero_r x

pub xor_shl : (a b k : ℕ) → bit_xor a b * 2 ^ k ≡ bit_xor (a * 2 ^ k) (b * 2 ^ k)
xor_shl a b k = sym (simp add-zero at (xor_block k a b 0 0 (pow_pos k) (pow_pos k)))

-- a number with the bit k set is the xor of that bit and the rest
high_bit : (k n : ℕ) → 2 ^ k + n < 2 ^ suc k → bit_xor (2 ^ k) n ≡ 2 ^ k + n
high_bit k n lt =
    let small : n < 2 ^ k = omega (arith, pow-suc 2 k) in
    let one : 1 * 2 ^ k ≡ 2 ^ k = omega arith in
    subst (λ (p : ℕ). bit_xor p n ≡ p + n) one (xor_shifted 1 k n small)

-- what holds of 0 and of the powers of two below 2 ^ k, and of the xor of two numbers of which it holds, holds below 2 ^ k
pub by_bits : (P : ℕ → Type 0) → P 0 → ((a b : ℕ) → P a → P b → P (bit_xor a b)) → (k : ℕ) → ((i : ℕ) → i < k → P (2 ^ i)) → (n : ℕ) → n < 2 ^ k → P n
by_bits P none both zero one n lt = let e : 0 ≡ n = omega arith in subst P e none
by_bits P none both (suc k) one n lt =
    let rest = by_bits P none both k (λ i h. one i (omega arith)) in
    elim (cases_lt n (2 ^ k)) [
      | inl small ↦ rest n small
      | inr large ↦
          let m : ℕ = n - 2 ^ k in
          let low : m < 2 ^ k = omega (arith, pow-suc 2 k) in
          let e : bit_xor (2 ^ k) m ≡ n = high_bit k m (omega arith) ∙ omega arith in
          subst P e (both (2 ^ k) m (one k (omega arith)) (rest m low))
    ]
