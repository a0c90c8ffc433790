-- The laws of the field of 256 elements.
use Rattle.std.proofs.Common.{◌≡◌, ℕ, ◌<◌, ◌==◌, bit_xor, refl, ◌∙◌, arith}
use Rattle.std.specs.Int.Bits.{xor_assoc, xor_zero_r}
use Rattle.std.proofs.lemmas.Bool.{eqb-true, eq-eqb}
use Rattle.std.proofs.lemmas.Nat.{xor_comm, xor_lt}
use Rattle.sc_field.specs.Field.{IsField, IsNumbered, IsAction, IsExact}
use Rattle.sc_field.specs.Gf256.{gf256_product, gf256_inverse}
use Rattle.sc_field.specs.Laws.Xor.{xor_twice}
use Rattle.sc_field.specs.Laws.Carryless.{product-left, product-right}
use Rattle.sc_field.specs.Laws.Product.{product_zero_left, product_one, product_below, product_comm, product_assoc}
use Rattle.sc_field.specs.Laws.Inverse.{inverse_below, product_inverse}

abbrev pub IsByte : ℕ → Type 0
IsByte n = n < 256

pub gf256_field : IsField IsByte 0 1 bit_xor bit_xor gf256_product gf256_inverse
gf256_field = record {
  zero_element = omega arith;
  one_element = omega arith;
  add_element = xor_lt 8;
  sub_element = xor_lt 8;
  mul_element = product_below;
  inv_element = inverse_below;
  distinct = λ e. omega arith;
  add_comm = λ x y hx hy. xor_comm x y;
  add_assoc = λ x y z hx hy hz. xor_assoc x y z;
  add_zero = λ x hx. xor_zero_r x;
  add_sub = λ x y hx hy. xor_twice x y;
  sub_add = λ x y hx hy. xor_twice x y;
  mul_comm = product_comm;
  mul_assoc = product_assoc;
  mul_one = product_one;
  mul_add = λ x y z hx hy hz. product-right x y z;
  mul_inv = product_inverse;
}

pub gf256_numbered : IsNumbered IsByte 0 1 (λ (n : ℕ). n) (λ (n : ℕ). n)
gf256_numbered = record { below = λ x hx. hx; injective = λ x y hx hy e. e; of_zero = refl; of_one = refl; element_number = λ x hx. refl }

pub gf256_action : IsAction IsByte 0 1 bit_xor gf256_product gf256_product
gf256_action = record {
  below = product_below;
  by_one = λ b hb. (let one : 1 < 256 = omega arith in product_comm 1 b one hb ∙ product_one b hb);
  by_zero = λ b hb. product_zero_left b;
  by_add = λ x y b hx hy hb. product-left x y b;
  of_xor = λ x b c hx hb hc. product-right x b c;
  by_mul = λ x y b hx hy hb. product_assoc x y b hx hy hb;
}

pub gf256_exact : IsExact IsByte (λ a b. a == b)
gf256_exact = record { exact = λ x y hx hy. (eqb-true x y, eq-eqb x y) }

pub gf256_by_number : (x : ℕ) → IsByte x → gf256_product x 1 ≡ x
gf256_by_number = product_one
