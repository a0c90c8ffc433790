-- Each byte but zero has one inverse.
use Rattle.std.proofs.Common.{◌≡◌, ◌≢◌, ℕ, zero, suc, ◌+◌, ◌<◌, Bool, true, false, not, nat_lt, ◌==◌, refl, sym, ap, subst, ◌∙◌, arith}
use Rattle.std.specs.List.{range_with_len, position_or_len}
use Rattle.std.proofs.lemmas.Bool.{eqb-true, ltb-true, eq-eqb}
use Rattle.std.proofs.lemmas.List.Sums.{prefix_len_is}
use Rattle.std.proofs.lemmas.List.FromFn.{length-range_with_len, get_or-range_with_len}
use Rattle.sc_field.specs.Gf256.{carryless_product, reduced, gf256_product, gf256_inverse}
use Rattle.sc_field.specs.Laws.Tests.{all_below}
use Rattle.sc_field.specs.Laws.Product.{product_one, product_assoc, product_comm}

-- no two bytes have the product 1 with x
only_inverse : (x y z : ℕ) → x < 256 → y < 256 → z < 256 → gf256_product x y ≡ 1 → gf256_product x z ≡ 1 → z ≡ y
only_inverse x y z hx hy hz p q =
    let one : 1 < 256 = omega arith in
    sym (product_one z hz) ∙ ap (gf256_product z) (sym p) ∙ sym (product_assoc z x y hz hx hy)
    ∙ ap (λ (n : ℕ). gf256_product n y) (product_comm z x hz hx ∙ q) ∙ product_comm 1 y one hy ∙ product_one y hy

not_true : (b : Bool) → (b ≡ true → ⊥) → not b ≡ true
not_true true not_so = absurd (not_so refl)
not_true false not_so = refl

first_is : (p : ℕ → Bool) (y : ℕ) → y < 256 → p y ≡ true → ((z : ℕ) → z < 256 → p z ≡ true → z ≡ y) → position_or_len p (range_with_len 0 256) ≡ y
first_is p y hy at only =
    let index = λ (k : ℕ) (h : k < 256). (let e : 0 + k ≡ k = omega arith in get_or-range_with_len 0 256 k 0 h ∙ e) in
    let before = λ (k : ℕ) (h : k < y). (let hk : k < 256 = omega arith in not_true (p k) (λ e. (let same : k ≡ y = only k hk e in omega arith))) in
    prefix_len_is (λ x. not (p x)) (range_with_len 0 256) y 0 (omega (arith, length-range_with_len 0 256))
    (λ k h. ap (λ (n : ℕ). not (p n)) (index k (omega arith)) ∙ before k h) (λ h. ap (λ (n : ℕ). not (p n)) (index y hy) ∙ ap not at)

pub inverse_is : (x y : ℕ) → x < 256 → y < 256 → gf256_product x y ≡ 1 → gf256_inverse x ≡ y
unfolding gf256_inverse
inverse_is x y hx hy right = first_is (λ z. gf256_product x z == 1) y hy (eq-eqb _ _ right) (λ z hz e. only_inverse x y z hx hy hz right (eqb-true _ _ e))

-- ---- the power 254 of a byte is its inverse, as the checker finds at each byte

-- p times the next n squares of squares of s
squares : ℕ → ℕ → ℕ → ℕ
squares zero p s = p
squares (suc n) p s = let t = gf256_product s s in squares n (gf256_product p t) t

power : ℕ → ℕ
power = squares 7 1

power_inverts : (x : ℕ) → x < 255 → gf256_product (suc x) (power (suc x)) ≡ 1
unfolding power squares gf256_product carryless_product reduced
power_inverts x lt = eqb-true _ _ (all_below (λ x. gf256_product (suc x) (power (suc x)) == 1) 255 refl x lt)

power_below : (x : ℕ) → x < 255 → power (suc x) < 256
unfolding power squares gf256_product carryless_product reduced
power_below x lt = ltb-true _ _ (all_below (λ x. nat_lt (power (suc x)) 256) 255 refl x lt)

inverse_is_power : (x : ℕ) → x < 255 → gf256_inverse (suc x) ≡ power (suc x)
inverse_is_power x lt = inverse_is (suc x) (power (suc x)) (omega arith) (power_below x lt) (power_inverts x lt)

pub inverse_below : (x : ℕ) → x < 256 → x ≢ 0 → gf256_inverse x < 256
inverse_below zero hx nonzero = absurd (nonzero refl)
inverse_below (suc x) hx nonzero = let lt : x < 255 = omega arith in subst (λ (n : ℕ). n < 256) (sym (inverse_is_power x lt)) (power_below x lt)

pub product_inverse : (x : ℕ) → x < 256 → x ≢ 0 → gf256_product x (gf256_inverse x) ≡ 1
product_inverse zero hx nonzero = absurd (nonzero refl)
product_inverse (suc x) hx nonzero = let lt : x < 255 = omega arith in ap (gf256_product (suc x)) (inverse_is_power x lt) ∙ power_inverts x lt
