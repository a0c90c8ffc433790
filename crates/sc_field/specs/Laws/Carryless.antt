-- The carry-less product and its reduction are additive.
use Rattle.std.proofs.Common.{◌≡◌, ℕ, zero, suc, ◌+◌, ◌*◌, ◌^◌, ◌%◌, ◌<◌, ◌==◌, List, [], ◌∷◌, map, filter, fold, bit_xor, Bool, true, false, refl, sym, ap, ap₂, ◌∙◌, arith, if◌then◌else◌}
use Rattle.std.specs.Int.{bit_at}
use Rattle.std.specs.List.{range_with_len}
use Rattle.std.specs.Int.Bits.{xor_self, xor_zero_r}
use Rattle.std.proofs.lemmas.Nat.Bits.{bit_at_xor, bit_at-lt}
use Rattle.sc_field.specs.Gf256.{xor_all, carryless_product, less_modulus, reduced, gf256_product}
use Rattle.sc_field.specs.Laws.Xor.{xor_four, xor_shl}

-- m where the bit is set
pick : ℕ → ℕ → ℕ
pick zero m = 0
pick (suc b) m = m

two_bits : (P : ℕ → Type 0) → P 0 → P 1 → (p : ℕ) → p < 2 → P p
two_bits P a b zero lt = a
two_bits P a b (suc zero) lt = b
two_bits P a b (suc (suc p)) lt = absurd (omega arith)

pick-xor : (p q m : ℕ) → p < 2 → q < 2 → pick ((p + q) % 2) m ≡ bit_xor (pick p m) (pick q m)
unfolding pick
pick-xor p q m hp hq =
    two_bits (λ (p : ℕ). pick ((p + q) % 2) m ≡ bit_xor (pick p m) (pick q m))
    (two_bits (λ (q : ℕ). pick ((0 + q) % 2) m ≡ bit_xor 0 (pick q m)) refl refl q hq)
    (two_bits (λ (q : ℕ). pick ((1 + q) % 2) m ≡ bit_xor m (pick q m)) (sym (xor_zero_r m)) (sym (xor_self m)) q hq)
    p hp

pick-bit_at : (a b i m : ℕ) → pick (bit_at (bit_xor a b) i) m ≡ bit_xor (pick (bit_at a i) m) (pick (bit_at b i) m)
pick-bit_at a b i m = ap (λ (p : ℕ). pick p m) (bit_at_xor a b i) ∙ pick-xor (bit_at a i) (bit_at b i) m (bit_at-lt a i) (bit_at-lt b i)

pick-both : (p a b : ℕ) → pick p (bit_xor a b) ≡ bit_xor (pick p a) (pick p b)
unfolding pick
pick-both zero a b = refl
pick-both (suc p) a b = refl

-- ---- the carry-less product, as a sum over all places

abbrev parts : ℕ → ℕ → List ℕ → ℕ
parts x y is = xor_all (map (λ i. pick (bit_at y i) (x * 2 ^ i)) is)

cond_bit : (p m n : ℕ) → p < 2 → (if p == 1 then bit_xor m n else n) ≡ bit_xor (pick p m) n
unfolding pick
cond_bit p m n lt = two_bits (λ (p : ℕ). (if p == 1 then bit_xor m n else n) ≡ bit_xor (pick p m) n) refl refl p lt

if-xor_all : (b : Bool) (m : ℕ) (f : ℕ → ℕ) (is : List ℕ) (i : ℕ) → xor_all (map f (if b then i ∷ is else is)) ≡ (if b then bit_xor (f i) (xor_all (map f is)) else xor_all (map f is))
if-xor_all true m f is i = refl
if-xor_all false m f is i = refl

filter-parts : (x y : ℕ) (is : List ℕ) → xor_all (map (λ i. x * 2 ^ i) (filter (λ i. bit_at y i == 1) is)) ≡ parts x y is
filter-parts x y [] = refl
filter-parts x y (i ∷ is) =
    if-xor_all (bit_at y i == 1) 0 (λ i. x * 2 ^ i) (filter (λ i. bit_at y i == 1) is) i
    ∙ cond_bit (bit_at y i) (x * 2 ^ i) _ (bit_at-lt y i) ∙ ap (bit_xor (pick (bit_at y i) (x * 2 ^ i))) (filter-parts x y is)

xor_all-xor : (f g h : ℕ → ℕ) → ((i : ℕ) → h i ≡ bit_xor (f i) (g i)) → (is : List ℕ) → xor_all (map h is) ≡ bit_xor (xor_all (map f is)) (xor_all (map g is))
xor_all-xor f g h each [] = refl
xor_all-xor f g h each (i ∷ is) = ap₂ bit_xor (each i) (xor_all-xor f g h each is) ∙ xor_four (f i) (g i) _ _

is_parts : (x y : ℕ) → carryless_product x y ≡ parts x y (range_with_len 0 8)
unfolding carryless_product
is_parts x y = filter-parts x y (range_with_len 0 8)

carryless-right : (x y z : ℕ) → carryless_product x (bit_xor y z) ≡ bit_xor (carryless_product x y) (carryless_product x z)
carryless-right x y z =
    is_parts x (bit_xor y z) ∙ xor_all-xor (λ i. pick (bit_at y i) (x * 2 ^ i)) (λ i. pick (bit_at z i) (x * 2 ^ i)) _ (λ i. pick-bit_at y z i (x * 2 ^ i)) (range_with_len 0 8)
    ∙ ap₂ bit_xor (sym (is_parts x y)) (sym (is_parts x z))

carryless-left : (x y z : ℕ) → carryless_product (bit_xor x y) z ≡ bit_xor (carryless_product x z) (carryless_product y z)
carryless-left x y z =
    is_parts (bit_xor x y) z
    ∙ xor_all-xor (λ i. pick (bit_at z i) (x * 2 ^ i)) (λ i. pick (bit_at z i) (y * 2 ^ i)) _ (λ i. ap (pick (bit_at z i)) (xor_shl x y i) ∙ pick-both (bit_at z i) (x * 2 ^ i) (y * 2 ^ i)) (range_with_len 0 8)
    ∙ ap₂ bit_xor (sym (is_parts x z)) (sym (is_parts y z))

-- ---- the reduction

less_modulus-is : (n i : ℕ) → less_modulus n i ≡ bit_xor n (pick (bit_at n (i + 8)) (0x11D * 2 ^ i))
unfolding pick
less_modulus-is n i =
    two_bits (λ (p : ℕ). (if p == 1 then bit_xor n (0x11D * 2 ^ i) else n) ≡ bit_xor n (pick p (0x11D * 2 ^ i))) (sym (xor_zero_r n)) refl (bit_at n (i + 8)) (bit_at-lt n (i + 8))

less_modulus-xor : (a b i : ℕ) → less_modulus (bit_xor a b) i ≡ bit_xor (less_modulus a i) (less_modulus b i)
less_modulus-xor a b i =
    less_modulus-is (bit_xor a b) i ∙ ap (bit_xor (bit_xor a b)) (pick-bit_at a b (i + 8) (0x11D * 2 ^ i)) ∙ xor_four a b _ _
    ∙ ap₂ bit_xor (sym (less_modulus-is a i)) (sym (less_modulus-is b i))

fold-less_modulus : (is : List ℕ) (a b : ℕ) → fold less_modulus (bit_xor a b) is ≡ bit_xor (fold less_modulus a is) (fold less_modulus b is)
fold-less_modulus [] a b = refl
fold-less_modulus (i ∷ is) a b = ap (λ (n : ℕ). fold less_modulus n is) (less_modulus-xor a b i) ∙ fold-less_modulus is (less_modulus a i) (less_modulus b i)

reduced-xor : (a b : ℕ) → reduced (bit_xor a b) ≡ bit_xor (reduced a) (reduced b)
unfolding reduced
reduced-xor a b = fold-less_modulus (6 ∷ 5 ∷ 4 ∷ 3 ∷ 2 ∷ 1 ∷ 0 ∷ []) a b

-- ---- the product is additive in both factors

pub product-right : (x y z : ℕ) → gf256_product x (bit_xor y z) ≡ bit_xor (gf256_product x y) (gf256_product x z)
unfolding gf256_product
product-right x y z = ap reduced (carryless-right x y z) ∙ reduced-xor (carryless_product x y) (carryless_product x z)

pub product-left : (x y z : ℕ) → gf256_product (bit_xor x y) z ≡ bit_xor (gf256_product x z) (gf256_product y z)
unfolding gf256_product
product-left x y z = ap reduced (carryless-left x y z) ∙ reduced-xor (carryless_product x z) (carryless_product y z)
