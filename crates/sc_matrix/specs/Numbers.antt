-- What a matrix of a field's elements is in memory: rows of the elements' numbers.
use Rattle.std.specs.Prelude.{ℕ}
use Rattle.sc_field.specs.Field.{IsNumber}
use Rattle.sc_matrix.specs.Matrix.{Matrix, IsMatrix}
use Rattle.sc_matrix.specs.Layout.{map_matrix}
use Rattle.sc_matrix.specs.Rows.{table}
use Rattle.sc_matrix.specs.declared.rows.Rows.{Rows}

-- the matrix whose entries have these numbers
abbrev pub elements_of : {A : Type 0} → (ℕ → A) → Rows → Matrix A
elements_of element r = map_matrix element (table r)

-- each byte is the number of an element
abbrev pub AreNumbers : {A : Type 0} → (A → Type 0) → (A → ℕ) → (ℕ → A) → Rows → Type 0
AreNumbers IsElement number element r = IsMatrix (IsNumber IsElement number element) (table r)
