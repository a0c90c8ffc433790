-- The product of GF(256) is commutative and associative, and gives bytes: since it is additive in each factor, it is
-- enough to look at the powers of two below 256, and those the checker computes.
use Rattle.std.proofs.Common.{◌≡◌, ℕ, ◌^◌, ◌<◌, nat_lt, ◌==◌, bit_xor, refl, sym, ap, ap₂, ◌∙◌, subst, arith}
use Rattle.std.specs.Int.Bits.{xor_self}
use Rattle.std.proofs.lemmas.Bool.{eqb-true, ltb-true}
use Rattle.std.proofs.lemmas.Nat.{xor_lt}
use Rattle.sc_field.specs.Gf256.{carryless_product, reduced, gf256_product}
use Rattle.sc_field.specs.Laws.Tests.{all_below, all_pairs_below, all_triples_below}
use Rattle.sc_field.specs.Laws.Xor.{by_bits}
use Rattle.sc_field.specs.Laws.Carryless.{product-left, product-right}

-- ---- what the checker computes

one_at : (i : ℕ) → i < 8 → gf256_product (2 ^ i) 1 ≡ 2 ^ i
unfolding gf256_product carryless_product reduced
one_at i hi = eqb-true _ _ (all_below (λ i. gf256_product (2 ^ i) 1 == 2 ^ i) 8 refl i hi)

byte_at : (i j : ℕ) → i < 8 → j < 8 → gf256_product (2 ^ i) (2 ^ j) < 256
unfolding gf256_product carryless_product reduced
byte_at i j hi hj = ltb-true _ _ (all_pairs_below (λ i j. nat_lt (gf256_product (2 ^ i) (2 ^ j)) 256) 8 refl i j hi hj)

comm_at : (i j : ℕ) → i < 8 → j < 8 → gf256_product (2 ^ i) (2 ^ j) ≡ gf256_product (2 ^ j) (2 ^ i)
unfolding gf256_product carryless_product reduced
comm_at i j hi hj = eqb-true _ _ (all_pairs_below (λ i j. gf256_product (2 ^ i) (2 ^ j) == gf256_product (2 ^ j) (2 ^ i)) 8 refl i j hi hj)

assoc_at : (i j k : ℕ) → i < 8 → j < 8 → k < 8 → gf256_product (gf256_product (2 ^ i) (2 ^ j)) (2 ^ k) ≡ gf256_product (2 ^ i) (gf256_product (2 ^ j) (2 ^ k))
unfolding gf256_product carryless_product reduced
assoc_at i j k hi hj hk =
    eqb-true _ _ (all_triples_below (λ i j k. gf256_product (gf256_product (2 ^ i) (2 ^ j)) (2 ^ k) == gf256_product (2 ^ i) (gf256_product (2 ^ j) (2 ^ k))) 8 refl i j k hi hj hk)

-- ---- and so at all bytes

pub product_zero_right : (x : ℕ) → gf256_product x 0 ≡ 0
product_zero_right x = product-right x 0 0 ∙ xor_self (gf256_product x 0)

pub product_zero_left : (y : ℕ) → gf256_product 0 y ≡ 0
product_zero_left y = product-left 0 0 y ∙ xor_self (gf256_product 0 y)

pub product_one : (x : ℕ) → x < 256 → gf256_product x 1 ≡ x
product_one = by_bits (λ x. gf256_product x 1 ≡ x) (product_zero_left 1) (λ a b p q. product-left a b 1 ∙ ap₂ bit_xor p q) 8 one_at

pub product_below : (x y : ℕ) → x < 256 → y < 256 → gf256_product x y < 256
product_below x y hx hy =
    by_bits (λ x. gf256_product x y < 256) (subst (λ (n : ℕ). n < 256) (sym (product_zero_left y)) (omega arith))
    (λ a b p q. subst (λ (n : ℕ). n < 256) (sym (product-left a b y)) (xor_lt 8 _ _ p q)) 8
    (λ i hi. by_bits (λ y. gf256_product (2 ^ i) y < 256) (subst (λ (n : ℕ). n < 256) (sym (product_zero_right (2 ^ i))) (omega arith))
    (λ a b p q. subst (λ (n : ℕ). n < 256) (sym (product-right (2 ^ i) a b)) (xor_lt 8 _ _ p q)) 8 (λ j hj. byte_at i j hi hj) y hy)
    x hx

pub product_comm : (x y : ℕ) → x < 256 → y < 256 → gf256_product x y ≡ gf256_product y x
product_comm x y hx hy =
    by_bits (λ x. gf256_product x y ≡ gf256_product y x) (product_zero_left y ∙ sym (product_zero_right y))
    (λ a b p q. product-left a b y ∙ ap₂ bit_xor p q ∙ sym (product-right y a b)) 8
    (λ i hi. by_bits (λ y. gf256_product (2 ^ i) y ≡ gf256_product y (2 ^ i)) (product_zero_right (2 ^ i) ∙ sym (product_zero_left (2 ^ i)))
    (λ a b p q. product-right (2 ^ i) a b ∙ ap₂ bit_xor p q ∙ sym (product-left a b (2 ^ i))) 8 (λ j hj. comm_at i j hi hj) y hy)
    x hx

-- x, y and z associate
abbrev Associate : ℕ → ℕ → ℕ → Type 0
Associate x y z = gf256_product (gf256_product x y) z ≡ gf256_product x (gf256_product y z)

zero_first : (y z : ℕ) → Associate 0 y z
zero_first y z = ap (λ (n : ℕ). gf256_product n z) (product_zero_left y) ∙ product_zero_left z ∙ sym (product_zero_left (gf256_product y z))

zero_second : (x z : ℕ) → Associate x 0 z
zero_second x z =
    ap (λ (n : ℕ). gf256_product n z) (product_zero_right x) ∙ product_zero_left z
    ∙ sym (ap (gf256_product x) (product_zero_left z) ∙ product_zero_right x)

zero_third : (x y : ℕ) → Associate x y 0
zero_third x y = product_zero_right (gf256_product x y) ∙ sym (ap (gf256_product x) (product_zero_right y) ∙ product_zero_right x)

xor_first : (y z a b : ℕ) → Associate a y z → Associate b y z → Associate (bit_xor a b) y z
xor_first y z a b p q =
    ap (λ (n : ℕ). gf256_product n z) (product-left a b y) ∙ product-left (gf256_product a y) (gf256_product b y) z ∙ ap₂ bit_xor p q
    ∙ sym (product-left a b (gf256_product y z))

xor_second : (x z a b : ℕ) → Associate x a z → Associate x b z → Associate x (bit_xor a b) z
xor_second x z a b p q =
    ap (λ (n : ℕ). gf256_product n z) (product-right x a b) ∙ product-left (gf256_product x a) (gf256_product x b) z ∙ ap₂ bit_xor p q
    ∙ sym (ap (gf256_product x) (product-left a b z) ∙ product-right x (gf256_product a z) (gf256_product b z))

xor_third : (x y a b : ℕ) → Associate x y a → Associate x y b → Associate x y (bit_xor a b)
xor_third x y a b p q =
    product-right (gf256_product x y) a b ∙ ap₂ bit_xor p q
    ∙ sym (ap (gf256_product x) (product-right y a b) ∙ product-right x (gf256_product y a) (gf256_product y b))

pub product_assoc : (x y z : ℕ) → x < 256 → y < 256 → z < 256 → gf256_product (gf256_product x y) z ≡ gf256_product x (gf256_product y z)
product_assoc x y z hx hy hz =
    by_bits (λ x. Associate x y z) (zero_first y z) (xor_first y z) 8
    (λ i hi. by_bits (λ y. Associate (2 ^ i) y z) (zero_second (2 ^ i) z) (xor_second (2 ^ i) z) 8
    (λ j hj. by_bits (λ z. Associate (2 ^ i) (2 ^ j) z) (zero_third (2 ^ i) (2 ^ j)) (xor_third (2 ^ i) (2 ^ j)) 8 (λ k hk. assoc_at i j k hi hj hk) z hz) y hy)
    x hx
