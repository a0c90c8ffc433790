-- The form in which equations are kept: a table with a place for each column. At its pivot column a row has a one, and
-- every other row has a zero there. This is how a system is kept and computed with. What it means is said by its
-- solutions alone.
use Rattle.std.specs.Prelude.{◌≡◌, ◌≢◌, ℕ, ◌<◌, List, [], ◌∷◌, length, slice_index_or, Option, None, Some}
use Rattle.sc_echelon.specs.Equation.{Row, IsRow, Meets}

-- the row whose pivot is column i
abbrev pub slot : {X : Type 0} → List (Option X) → ℕ → Option X
slot t i = slice_index_or t i None

-- the rows of a table, by rising pivots
abbrev pub rows_of : {X : Type 0} → List (Option X) → List X
rows_of [] = []
rows_of (None ∷ t) = rows_of t
rows_of (Some r ∷ t) = r ∷ rows_of t

pub record IsReduced {A V : Type 0} (IsElement : A → Type 0) (zero one : A) (IsValue : V → Type 0) (n : ℕ) (t : List (Option (Row A V))) : Type 0 where
  pub count : length t ≡ n
  pub rows : (i : ℕ) (r : Row A V) → slot t i ≡ Some r → IsRow IsElement IsValue n r
  pub one_at : (i : ℕ) (r : Row A V) → slot t i ≡ Some r → slice_index_or r.coeffs i zero ≡ one
  pub zero_at : (i j : ℕ) (r q : Row A V) → slot t i ≡ Some r → slot t j ≡ Some q → i ≢ j → slice_index_or r.coeffs j zero ≡ zero

-- the pivot is its row's first nonzero entry
abbrev pub HasFirstPivots : {A V : Type 0} → A → List (Option (Row A V)) → Type 0
HasFirstPivots {A} {V} zero t = (i j : ℕ) (r : Row A V) → slot t i ≡ Some r → j < i → slice_index_or r.coeffs j zero ≡ zero

-- the pivot is its row's last nonzero entry
abbrev pub HasLastPivots : {A V : Type 0} → A → List (Option (Row A V)) → Type 0
HasLastPivots {A} {V} zero t = (i j : ℕ) (r : Row A V) → slot t i ≡ Some r → i < j → slice_index_or r.coeffs j zero ≡ zero

-- the values meet each row of the table
abbrev pub SolvesTable : {A V : Type 0} → V → (V → V → V) → (A → V → V) → List (Option (Row A V)) → List V → Type 0
SolvesTable {A} {V} none plus times t vs = (i : ℕ) (r : Row A V) → slot t i ≡ Some r → Meets none plus times r vs
