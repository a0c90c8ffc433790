-- Systems of linear equations, in the standard terms of linear algebra. The unknowns are values of a module over a field:
-- byte strings of one width, or the elements of the field itself. The operations are parameters.
use Rattle.std.specs.Prelude.{◌≡◌, ℕ, List, length, All}
use Rattle.sc_matrix.specs.Vector.{dot}

-- an equation: a coefficient for each column, and what the columns' values, each times its coefficient, are to sum up to
pub record Row (A V : Type 0) : Type 0 where
  pub coeffs : List A
  pub right : V

-- the equation has a coefficient for each of n columns, elements all, and a value on its right side
pub record IsRow {A V : Type 0} (IsElement : A → Type 0) (IsValue : V → Type 0) (n : ℕ) (r : Row A V) : Type 0 where
  pub width : length r.coeffs ≡ n
  pub elements : All IsElement r.coeffs
  pub value : IsValue r.right

-- the values, one for each column, solve the equation
abbrev pub Meets : {A V : Type 0} → V → (V → V → V) → (A → V → V) → Row A V → List V → Type 0
Meets none plus times r vs = dot none plus times r.coeffs vs ≡ r.right

-- and each of the equations
abbrev pub Solves : {A V : Type 0} → V → (V → V → V) → (A → V → V) → List (Row A V) → List V → Type 0
Solves none plus times rows vs = All (λ r. Meets none plus times r vs) rows
