-- Columns of which some are known outright, and what equations say of the others. For private contracts alone.
use Rattle.std.specs.Prelude.{◌≡◌, ◌↔◌, ◌⊎◌, ℕ, ◌+◌, ◌*◌, ◌<◌, ◌≤◌, Bool, true, false, List, [], ◌++◌, All, length, map, replicate, slice_index_or, slice_set, if◌then◌else◌}
use Rattle.std.specs.List.{range_with_len}
use Rattle.sc_field.specs.Gf256.{gf256_product}
use Rattle.sc_matrix.specs.Module.{IsByte}
use Rattle.sc_matrix.specs.Vector.{IsVector}
use Rattle.sc_matrix.specs.Layout.{cut}
use Rattle.sc_echelon.specs.Equation.{Row}
use Rattle.sc_echelon.specs.Knowledge.{Knowledge, IsSolution, IsValueAt, IsBytes, zero_bytes}
use Rattle.sc_repair.specs.Equations.{Gives}

-- that column c of n has the stored bytes, as an equation; of a column that isn't whole it says nothing
abbrev pub stored_row : ℕ → ℕ → List Bool → List ℕ → ℕ → Row ℕ (List ℕ)
stored_row n w whole bytes c = record {
  coeffs = slice_set (replicate n 0) c (if slice_index_or whole c false then 1 else 0);
  right = if slice_index_or whole c false then slice_index_or (cut n w bytes) c [] else zero_bytes w;
}

-- what is known of all columns: those that are whole have the stored bytes, and the equations hold
abbrev pub all_known : Knowledge ℕ → List Bool → List ℕ → Knowledge ℕ
all_known known whole bytes = record {
  cols = known.cols;
  width = known.width;
  rows = map (stored_row known.cols known.width whole bytes) (range_with_len 0 known.cols) ++ known.rows;
}

-- every solution has these byte strings, which stand side by side, at the columns from one on
abbrev pub AreValuesAt : Knowledge ℕ → ℕ → ℕ → List ℕ → Type 0
AreValuesAt known first count bytes =
    (length bytes ≡ count * known.width)
    × ((i : ℕ) → i < count → IsValueAt gf256_product known (first + i) (slice_index_or (cut count known.width bytes) i []))

-- the columns that are whole have the stored byte strings
abbrev pub HasStored : List Bool → List (List ℕ) → List (List ℕ) → Type 0
HasStored whole stored vs = (c : ℕ) → slice_index_or whole c false ≡ true → slice_index_or vs c [] ≡ slice_index_or stored c []

-- the equations say nothing of the free columns: a list that is as a solution at all others is one
abbrev pub IsFree : Knowledge ℕ → List Bool → Type 0
IsFree known free =
    (vs us : List (List ℕ)) → IsSolution gf256_product known vs → IsVector (IsBytes known.width) known.cols us
    → ((c : ℕ) → c < known.cols → slice_index_or free c false ≡ false → slice_index_or us c [] ≡ slice_index_or vs c [])
    → IsSolution gf256_product known us

-- the equations say nothing at all
abbrev pub IsQuiet : Knowledge ℕ → Type 0
IsQuiet known = (vs : List (List ℕ)) → IsVector (IsBytes known.width) known.cols vs → IsSolution gf256_product known vs

-- There is a flag and a byte string for each column, and that of a column that isn't whole is zero. Of a whole column
-- the equations say nothing, or just that.
pub record IsColumns (known : Knowledge ℕ) (whole free : List Bool) (bytes : List ℕ) : Type 0 where
  pub some : 1 ≤ known.width
  pub whole_count : length whole ≡ known.cols
  pub free_count : length free ≡ known.cols
  pub byte_count : length bytes ≡ known.cols * known.width
  pub are_bytes : All IsByte bytes
  pub blank : (c : ℕ) → c < known.cols → slice_index_or whole c false ≡ false → slice_index_or (cut known.cols known.width bytes) c [] ≡ zero_bytes known.width
  pub within : (c : ℕ) → slice_index_or whole c false ≡ true → (slice_index_or free c false ≡ true) ⊎ IsValueAt gf256_product known c (slice_index_or (cut known.cols known.width bytes) c [])
  pub is_free : IsFree known free

-- and there is room for a byte string; where nothing was told, the equations say nothing
pub record IsRoomyColumns (known : Knowledge ℕ) (told : Bool) (whole free : List Bool) (bytes sum : List ℕ) : Type 0 where
  pub columns : IsColumns known whole free bytes
  pub quiet : told ≡ false → IsQuiet known
  pub sum_count : length sum ≡ known.width

-- two equations say the same where the whole columns have the stored byte strings
abbrev pub SaysSame : List Bool → List (List ℕ) → ℕ → List ℕ → List ℕ → List ℕ → List ℕ → Type 0
SaysSame whole stored w row right row' right' =
    All IsByte row → (vs : List (List ℕ)) → length vs ≡ length row → All (IsBytes w) vs → HasStored whole stored vs
    → Gives w row right vs ↔ Gives w row' right' vs

-- the whole columns before column n were taken out of an equation
abbrev pub TakenOut : List Bool → List (List ℕ) → ℕ → List ℕ → List ℕ → ℕ → List ℕ → List ℕ → Type 0
TakenOut whole stored w row0 right0 n row right =
    (length row ≡ length row0) × (length right ≡ length right0)
    × ((c : ℕ) → c < n → slice_index_or whole c false ≡ true → slice_index_or row c 0 ≡ 0)
    × ((c : ℕ) → c < n → slice_index_or row0 c 0 < 256)
    × ((c : ℕ) → c < n → slice_index_or row c 0 < 256)
    × ((c : ℕ) → n ≤ c → slice_index_or row c 0 ≡ slice_index_or row0 c 0)
    × SaysSame whole stored w row0 right0 row right
