-- Modules over a field and linear maps between them, in the standard terms of linear algebra.
use Rattle.std.specs.Prelude.{◌≡◌, ℕ, ◌<◌}

-- A module over a field: values that are added, and multiplied by the field's elements. The field itself is one, and so
-- are the bytes with xor, and the vectors of n values of a module.
pub record IsModule {C A : Type 0} (IsElement : C → Type 0) (zero one : C) (add mul : C → C → C) (IsValue : A → Type 0) (none : A) (plus : A → A → A) (times : C → A → A) : Type 0 where
  pub none_value : IsValue none
  pub plus_value : (u v : A) → IsValue u → IsValue v → IsValue (plus u v)
  pub times_value : (x : C) (v : A) → IsElement x → IsValue v → IsValue (times x v)
  pub plus_comm : (u v : A) → IsValue u → IsValue v → plus u v ≡ plus v u
  pub plus_assoc : (u v w : A) → IsValue u → IsValue v → IsValue w → plus (plus u v) w ≡ plus u (plus v w)
  pub plus_none : (v : A) → IsValue v → plus v none ≡ v
  pub times_one : (v : A) → IsValue v → times one v ≡ v
  pub times_zero : (v : A) → IsValue v → times zero v ≡ none
  pub times_plus : (x : C) (u v : A) → IsElement x → IsValue u → IsValue v → times x (plus u v) ≡ plus (times x u) (times x v)
  pub times_add : (x y : C) (v : A) → IsElement x → IsElement y → IsValue v → times (add x y) v ≡ plus (times x v) (times y v)
  pub times_mul : (x y : C) (v : A) → IsElement x → IsElement y → IsValue v → times (mul x y) v ≡ times x (times y v)

-- A linear map from the values of one module to those of another over the same field.
pub record IsLinear {C A B : Type 0} (IsElement : C → Type 0) (IsValue : A → Type 0) (none : A) (plus : A → A → A) (times : C → A → A) (none' : B) (plus' : B → B → B) (times' : C → B → B) (f : A → B) : Type 0 where
  pub of_none : f none ≡ none'
  pub of_plus : (u v : A) → IsValue u → IsValue v → f (plus u v) ≡ plus' (f u) (f v)
  pub of_times : (x : C) (v : A) → IsElement x → IsValue v → f (times x v) ≡ times' x (f v)

-- a byte
abbrev pub IsByte : ℕ → Type 0
IsByte b = b < 256
