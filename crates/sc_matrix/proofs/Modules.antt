-- The modules of this crate over a field: the field itself, its action on bytes, and the vectors of n values of a module.
use Rattle.std.proofs.Common.{◌≡◌, ℕ, List, length, map, replicate, bit_xor, refl, sym, ◌∙◌, arith}
use Rattle.std.specs.Int.Bits.{xor_assoc, xor_zero_r}
use Rattle.std.proofs.lemmas.Nat.{xor_comm, xor_of_8}
use Rattle.std.proofs.lemmas.List.{map-id}
use Rattle.sc_field.specs.Field.{IsField, IsAction}
use Rattle.sc_field.specs.FieldLemmas.{add_mul, zero_mul, one_mul}
use Rattle.sc_matrix.specs.Module.{IsModule, IsLinear, IsByte}
use Rattle.sc_matrix.specs.Laws.{AreDotLaws}
use Rattle.sc_matrix.specs.Vector.{IsVector, add_vectors, scale_vector, dot, combination}
use Rattle.sc_matrix.proofs.VectorLaws.{add_vectors-none, add_vectors-comm, add_vectors-assoc, map_same, map_const, map-plus, map-map, map-add_vectors, IsVector-replicate, IsVector-add_vectors, IsVector-map}
use Rattle.sc_matrix.proofs.ModuleLaws.{value-dot, linear-dot, dot_zero_left, dot-add_left, dot-scale_left, dot-add_right, dot-scale_right, dot-append, dot-zeros_back, dot-zeros_front, dot-picked, dot_unit}

module _ {A : Type 0} {IsElement : A → Type 0} {zero one : A} {add sub mul : A → A → A} {inv : A → A} (laws : IsField IsElement zero one add sub mul inv) where
  pub field_module : IsModule IsElement zero one add mul IsElement zero add mul
  field_module = record {
    none_value = laws.zero_element;
    plus_value = laws.add_element;
    times_value = laws.mul_element;
    plus_comm = laws.add_comm;
    plus_assoc = laws.add_assoc;
    plus_none = laws.add_zero;
    times_one = one_mul laws;
    times_zero = zero_mul laws;
    times_plus = laws.mul_add;
    times_add = add_mul laws;
    times_mul = laws.mul_assoc;
  }

pub byte_module : {A : Type 0} {IsElement : A → Type 0} {zero one : A} {add mul : A → A → A} {act : A → ℕ → ℕ} → IsAction IsElement zero one add mul act → IsModule IsElement zero one add mul IsByte 0 bit_xor act
byte_module action = record {
  none_value = omega arith;
  plus_value = λ u v hu hv. xor_of_8 u v hu hv;
  times_value = λ x v hx hv. action.below x v hx hv;
  plus_comm = λ u v hu hv. xor_comm u v;
  plus_assoc = λ u v w hu hv hw. xor_assoc u v w;
  plus_none = λ v hv. xor_zero_r v;
  times_one = action.by_one;
  times_zero = action.by_zero;
  times_plus = action.of_xor;
  times_add = action.by_add;
  times_mul = action.by_mul;
}

-- ---- vectors of n values of a module
module _ {C A : Type 0} {IsElement : C → Type 0} {zero one : C} {add mul : C → C → C} {IsValue : A → Type 0} {none : A} {plus : A → A → A} {times : C → A → A} (ml : IsModule IsElement zero one add mul IsValue none plus times) where
  pub vector_module : (n : ℕ) → IsModule IsElement zero one add mul (IsVector IsValue n) (replicate n none) (add_vectors plus) (scale_vector times)
  vector_module n = record {
    none_value = IsVector-replicate n none ml.none_value;
    plus_value = λ u v hu hv. IsVector-add_vectors plus u v ml.plus_value hu hv;
    times_value = λ x v hx hv. IsVector-map (times x) v (λ y hy. ml.times_value x y hx hy) hv;
    plus_comm = λ u v hu hv. add_vectors-comm plus u v ml.plus_comm hu hv;
    plus_assoc = λ u v w hu hv hw. add_vectors-assoc plus u v w ml.plus_assoc hu hv hw;
    plus_none = λ v hv. add_vectors-none plus none v ml.plus_none hv;
    times_one = λ v hv. map_same (times one) (λ (y : A). y) v ml.times_one hv ∙ map-id v;
    times_zero = λ v hv. map_const (times zero) none v ml.times_zero hv;
    times_plus = λ x u v hx hu hv. map-add_vectors plus plus (times x) u v (λ a b ha hb. ml.times_plus x a b hx ha hb) hu hv;
    times_add = λ x y v hx hy hv. map-plus plus (times (add x y)) (times x) (times y) v (λ a ha. ml.times_add x y a hx hy ha) hv;
    times_mul = λ x y v hx hy hv.
        map_same (times (mul x y)) (λ (a : A). times x (times y a)) v (λ a ha. ml.times_mul x y a hx hy ha) hv ∙ sym (map-map (times x) (times y) v);
  }

-- to take the dot product with a vector of values is linear
module _ {C A : Type 0} {IsElement : C → Type 0} {zero one : C} {add sub mul : C → C → C} {inv : C → C} {IsValue : A → Type 0} {none : A} {plus : A → A → A} {times : C → A → A} (laws : IsField IsElement zero one add sub mul inv) (ml : IsModule IsElement zero one add mul IsValue none plus times) where
  pub dot_linear : {q : ℕ} (n : ℕ) (vs : List A) → IsVector IsValue q vs → IsLinear IsElement (IsVector IsElement n) (replicate n zero) (add_vectors add) (scale_vector mul) none plus times (λ (r : List C). dot none plus times r vs)
  dot_linear n vs hv = record {
    of_none = dot_zero_left laws ml n vs hv;
    of_plus = λ r s hr hs. dot-add_left laws ml r s vs hr hs hv;
    of_times = λ x r hx hr. dot-scale_left laws ml x r vs hx hr hv;
  }

  -- the dot product of a combination of rows
  pub dot-combination : {p m q : ℕ} (n : ℕ) (cs : List C) (rows : List (List C)) (vs : List A) → IsVector IsElement p cs → IsVector (IsVector IsElement n) m rows → IsVector IsValue q vs
      → dot none plus times (combination zero add mul n cs rows) vs ≡ dot none plus times cs (map (λ (r : List C). dot none plus times r vs) rows)
  dot-combination n cs rows vs hc hr hv = linear-dot laws (vector_module (field_module laws) n) (dot_linear n vs hv) cs rows hc hr

  pub IsVector-combination : {p q : ℕ} (n : ℕ) (cs : List C) (vs : List (List A)) → IsVector IsElement p cs → IsVector (IsVector IsValue n) q vs → IsVector IsValue n (combination none plus times n cs vs)
  IsVector-combination n cs vs hc hv = value-dot laws (vector_module ml n) cs vs hc hv

  pub dot_laws : AreDotLaws IsElement zero one add mul IsValue none plus times
  dot_laws = record {
    value = λ p q cs vs hc hv. value-dot laws ml cs vs hc hv;
    add_left = λ p q cs ds vs hc hd hv. dot-add_left laws ml cs ds vs hc hd hv;
    scale_left = λ p q k cs vs hk hc hv. dot-scale_left laws ml k cs vs hk hc hv;
    add_right = λ p q cs vs ws hc hv hw. dot-add_right laws ml cs vs ws hc hv hw;
    scale_right = λ p q k cs vs hk hc hv. dot-scale_right laws ml k cs vs hk hc hv;
    unit = λ n i vs hv h. dot_unit laws ml n i vs hv h;
    append = λ p q r cs ds vs ws hc hd hv hw. dot-append laws ml cs ds vs ws (hc.width ∙ sym hv.width) hc hd hv hw;
    zeros_back = λ p q n cs vs hc hv. dot-zeros_back laws ml n cs vs hc hv;
    zeros_front = λ p q n cs vs hc hv. dot-zeros_front laws ml n cs vs hc hv;
    selection = λ p q flags cs vs hc hv. dot-picked laws ml flags cs vs hc hv;
    of_combination = λ p m n q cs rows vs hc hr hv. dot-combination n cs rows vs hc hr hv;
  }

-- bytes alone: no premise on their size
module _ where
  abbrev numbers : (vs : List ℕ) → IsVector (λ (x : ℕ). Unit {0}) (length vs) vs
  numbers vs = record { width = refl; entries = λ k d h. tt }

  pub vectors_none-bytes : (n : ℕ) (vs : List ℕ) → length vs ≡ n → add_vectors bit_xor vs (replicate n 0) ≡ vs
  vectors_none-bytes n vs e = rw (← e) (add_vectors-none bit_xor 0 vs (λ v _. xor_zero_r v) (numbers vs))

  pub vectors_none_left-bytes : (n : ℕ) (vs : List ℕ) → length vs ≡ n → add_vectors bit_xor (replicate n 0) vs ≡ vs
  vectors_none_left-bytes n vs e = add_vectors-comm bit_xor (replicate n 0) vs (λ u v _ _. xor_comm u v) (numbers _) (numbers vs) ∙ vectors_none-bytes n vs e

  pub vectors_assoc-bytes : (us vs ws : List ℕ) → add_vectors bit_xor (add_vectors bit_xor us vs) ws ≡ add_vectors bit_xor us (add_vectors bit_xor vs ws)
  vectors_assoc-bytes us vs ws = add_vectors-assoc bit_xor us vs ws (λ u v w _ _ _. xor_assoc u v w) (numbers us) (numbers vs) (numbers ws)
