-- Bytes that are zero but for some of them that lie together.
use Rattle.std.specs.Prelude.{◌≡◌, ◌≢◌, ℕ, ◌<◌, ◌≤◌, List, All, length, slice_index, slice_index_or}

-- zero before the place `from`, and from the place `end` on
pub record IsTouched (from end : ℕ) (xs : List ℕ) : Type 0 where
  pub order : from ≤ end
  pub within : end ≤ length xs
  pub before : (j : ℕ) → j < from → slice_index xs j ≡ 0
  pub after : (j : ℕ) → end ≤ j → slice_index xs j ≡ 0

-- the same, of bytes with the property P
pub record IsTouchedRow (P : ℕ → Type 0) (from end : ℕ) (xs : List ℕ) : Type 0 where
  pub all : All P xs
  pub touched : IsTouched from end xs

-- zero at each place but this one
abbrev pub IsZeroBut : {A : Type 0} → A → ℕ → List A → Type 0
IsZeroBut zero col xs = (j : ℕ) → j ≢ col → slice_index_or xs j zero ≡ zero
