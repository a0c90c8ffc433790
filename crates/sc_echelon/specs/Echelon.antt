-- The form in which the coefficients of a system are kept whose right sides are all zero.
use Rattle.std.specs.Prelude.{◌≡◌, ◌≢◌, ◌↔◌, ℕ, zero as naught, suc, ◌<◌, List, map, length, All, Bool, true, false, Option, None, Some, MatchOption, slice_index_or}
use Rattle.sc_matrix.specs.Vector.{dot, IsVector}
use Rattle.sc_echelon.specs.Equation.{Row}
use Rattle.sc_matrix.specs.Matrix.{Matrix}
use Rattle.sc_echelon.specs.Table.{rows_of, IsReduced, HasLastPivots, SolvesTable}
use Rattle.sc_echelon.specs.Storage.{table_of}

-- the row of these coefficients whose right side is zero
abbrev pub zero_row : {A : Type 0} → A → List A → Row A A
zero_row zero cs = record { coeffs = cs; right = zero }

abbrev pub with_zero : {A : Type 0} → A → Option (List A) → Option (Row A A)
with_zero zero None = None
with_zero zero (Some cs) = Some (zero_row zero cs)

-- a table of coefficients as one of rows
abbrev pub homogeneous : {A : Type 0} → A → List (Option (List A)) → List (Option (Row A A))
homogeneous zero s = map (with_zero zero) s

-- reduced, each pivot the last nonzero entry of its row
pub record IsEchelon {A : Type 0} (IsElement : A → Type 0) (zero one : A) (n : ℕ) (s : List (Option (List A))) : Type 0 where
  pub reduced : IsReduced IsElement zero one IsElement n (homogeneous zero s)
  pub last : HasLastPivots zero (homogeneous zero s)

-- the table has the kernel of the rows
abbrev pub HasKernelOf : {A : Type 0} → (A → Type 0) → A → (A → A → A) → (A → A → A) → ℕ → List (Option (List A)) → List (List A) → Type 0
HasKernelOf {A} IsElement zero add mul n s rows = (v : List A) → IsVector IsElement n v → SolvesTable zero add mul (homogeneous zero s) v ↔ All (λ r. dot zero add mul r v ≡ zero) rows

-- ---- how it is stored
-- the coefficients of a row
abbrev pub coeffs_at : {A V : Type 0} → Option (Row A V) → Option (List A)
coeffs_at None = None
coeffs_at (Some r) = Some r.coeffs

abbrev pub coeffs_of : {A V : Type 0} → List (Option (Row A V)) → List (Option (List A))
coeffs_of t = map coeffs_at t

-- the kept rows, by rising pivots
abbrev pub matrix_by : {A : Type 0} → ℕ → List (Option (List A)) → Matrix A
matrix_by n s = record { cols = n; rows = rows_of s }

-- rows of coefficients, as many as columns, in reduced form where their flags are on. Nothing stands on a right side.
pub record IsEchelonStored {A : Type 0} (IsElement : A → Type 0) (zero one : A) (used : List Bool) (rows : List (Row A (List ℕ))) : Type 0 where
  pub form : IsEchelon IsElement zero one (length used) (coeffs_of (table_of used rows))
  pub count : length rows ≡ length used
  pub widths : All (λ r. length r.coeffs ≡ length used) rows
  pub rights : All (λ r. length r.right ≡ 0) rows

-- of the first n bytes, the last that is not 0 stands at the place that is told, if there is one
abbrev pub IsLastNonzero : List ℕ → ℕ → Option ℕ → Type 0
IsLastNonzero xs n o =
    MatchOption o ((j : ℕ) → j < n → slice_index_or xs j 0 ≡ 0)
    (λ p. (p < n) × (slice_index_or xs p 0 ≢ 0) × ((j : ℕ) → p < j → j < n → slice_index_or xs j 0 ≡ 0))

-- of the flags below k, j is the last that is off
pub record IsLastOff (flags : List Bool) (k j : ℕ) : Type 0 where
  pub within : j < k
  pub off : slice_index_or flags j false ≡ false
  pub after : (i : ℕ) → j < i → i < k → slice_index_or flags i false ≡ true

-- The entry x at column i of the kernel vector with a one at column col and zeros at the other free columns: at a pivot
-- it is the negative of the row's coefficient at col.
pub record IsLeadingEntry {A V : Type 0} (zero one : A) (sub : A → A → A) (used : List Bool) (rows : List (Row A V)) (col i : ℕ) (x : A) : Type 0 where
  pub at_pivot : slice_index_or used i false ≡ true → (d : Row A V) → x ≡ sub zero (slice_index_or (slice_index_or rows i d).coeffs col zero)
  pub there : slice_index_or used i false ≡ false → i ≡ col → x ≡ one
  pub elsewhere : slice_index_or used i false ≡ false → i ≢ col → x ≡ zero

-- how many of the first k flags are on
abbrev pub counted : Bool → ℕ → ℕ
counted true n = suc n
counted false n = n

abbrev pub on_below : List Bool → ℕ → ℕ
on_below bs naught = 0
on_below bs (suc k) = counted (slice_index_or bs k false) (on_below bs k)
