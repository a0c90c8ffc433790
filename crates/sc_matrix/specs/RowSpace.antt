-- The row space of a matrix, and subspaces, in the standard terms of linear algebra.
use Rattle.std.specs.Prelude.{◌≡◌, List, All}
use Rattle.sc_matrix.specs.Vector.{IsVector, combination}
use Rattle.sc_matrix.specs.Matrix.{Matrix, row_count}

-- A set of values of a module that is a module itself: it has zero, sums and multiples.
pub record IsSubspace {C A : Type 0} (IsElement : C → Type 0) (none : A) (plus : A → A → A) (times : C → A → A) (Has : A → Type 0) : Type 0 where
  pub has_none : Has none
  pub has_plus : (u v : A) → Has u → Has v → Has (plus u v)
  pub has_times : (x : C) (v : A) → IsElement x → Has v → Has (times x v)

-- the vector is a linear combination of the rows of m
pub record IsInRowSpace {A : Type 0} (IsElement : A → Type 0) (zero : A) (add mul : A → A → A) (m : Matrix A) (v : List A) : Type 0 where
  pub coefficients : List A
  pub are_elements : IsVector IsElement (row_count m) coefficients
  pub is_combination : v ≡ combination zero add mul m.cols coefficients m.rows

-- each row of k is in the row space of m, which has as many columns
pub record RowsAreIn {A : Type 0} (IsElement : A → Type 0) (zero : A) (add mul : A → A → A) (k m : Matrix A) : Type 0 where
  pub cols : k.cols ≡ m.cols
  pub rows : All (IsInRowSpace IsElement zero add mul m) k.rows

-- the two matrices have one row space
pub record HaveOneRowSpace {A : Type 0} (IsElement : A → Type 0) (zero : A) (add mul : A → A → A) (k m : Matrix A) : Type 0 where
  pub first_in : RowsAreIn IsElement zero add mul k m
  pub second_in : RowsAreIn IsElement zero add mul m k
