-- The laws of the field of two elements, each tried at all elements.
use Rattle.std.proofs.Common.{◌≡◌, ◌≢◌, ℕ, zero, suc, ◌<◌, ◌==◌, bit_and, bit_xor, refl, sym, arith}
use Rattle.std.specs.Int.Bits.{xor_assoc, xor_self, xor_zero_r}
use Rattle.std.proofs.lemmas.Bool.{eqb-true, eq-eqb}
use Rattle.std.proofs.lemmas.Nat.{xor_comm, and_comm, and_assoc, xor_lt, and_le_l}
use Rattle.sc_field.specs.Field.{IsField, IsNumbered, IsAction, IsExact}
use Rattle.sc_field.specs.Gf2.{gf2_act}
use Rattle.sc_field.specs.Laws.Tests.{all_triples_below}
use Rattle.sc_field.specs.Laws.Xor.{xor_twice}

abbrev pub IsBit : ℕ → Type 0
IsBit n = n < 2

two_cases : (P : ℕ → Type 0) → P 0 → P 1 → (x : ℕ) → x < 2 → P x
two_cases P a b zero lt = a
two_cases P a b (suc zero) lt = b
two_cases P a b (suc (suc x)) lt = absurd (omega arith)

pub gf2_field : IsField IsBit 0 1 bit_xor bit_xor bit_and (λ x. x)
gf2_field = record {
  zero_element = omega arith;
  one_element = omega arith;
  add_element = xor_lt 1;
  sub_element = xor_lt 1;
  mul_element = λ x y hx hy. omega (arith, and_le_l x y);
  inv_element = λ x hx h. hx;
  distinct = λ e. omega arith;
  add_comm = λ x y hx hy. xor_comm x y;
  add_assoc = λ x y z hx hy hz. xor_assoc x y z;
  add_zero = λ x hx. xor_zero_r x;
  add_sub = λ x y hx hy. xor_twice x y;
  sub_add = λ x y hx hy. xor_twice x y;
  mul_comm = λ x y hx hy. and_comm x y;
  mul_assoc = λ x y z hx hy hz. and_assoc z x y;
  mul_one = two_cases (λ x. bit_and x 1 ≡ x) refl refl;
  mul_add = λ x y z hx hy hz. eqb-true _ _ (all_triples_below (λ x y z. bit_and x (bit_xor y z) == bit_xor (bit_and x y) (bit_and x z)) 2 refl x y z hx hy hz);
  mul_inv = two_cases (λ x. x ≢ 0 → bit_and x x ≡ 1) (λ h. absurd (h refl)) (λ h. refl);
}

pub gf2_numbered : IsNumbered IsBit 0 1 (λ (n : ℕ). n) (λ (n : ℕ). n)
gf2_numbered = record { below = λ x hx. omega arith; injective = λ x y hx hy e. e; of_zero = refl; of_one = refl; element_number = λ x hx. refl }

pub gf2_action : IsAction IsBit 0 1 bit_xor bit_and gf2_act
gf2_action = record {
  below = λ x b hx hb. two_cases (λ x. gf2_act x b < 256) (omega arith) hb x hx;
  by_one = λ b hb. refl;
  by_zero = λ b hb. refl;
  by_add = λ x y b hx hy hb.
      two_cases (λ x. gf2_act (bit_xor x y) b ≡ bit_xor (gf2_act x b) (gf2_act y b)) refl
      (two_cases (λ y. gf2_act (bit_xor 1 y) b ≡ bit_xor b (gf2_act y b)) (sym (xor_zero_r b)) (sym (xor_self b)) y hy) x hx;
  of_xor = λ x b c hx hb hc. two_cases (λ x. gf2_act x (bit_xor b c) ≡ bit_xor (gf2_act x b) (gf2_act x c)) refl refl x hx;
  by_mul = λ x y b hx hy hb. two_cases (λ x. gf2_act (bit_and x y) b ≡ gf2_act x (gf2_act y b)) refl (two_cases (λ y. gf2_act (bit_and 1 y) b ≡ gf2_act 1 (gf2_act y b)) refl refl y hy) x hx;
}

pub gf2_exact : IsExact IsBit (λ a b. a == b)
gf2_exact = record { exact = λ x y hx hy. (eqb-true x y, eq-eqb x y) }

pub gf2_by_number : (x : ℕ) → IsBit x → gf2_act x 1 ≡ x
gf2_by_number = two_cases (λ x. gf2_act x 1 ≡ x) refl refl
