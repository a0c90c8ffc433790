-- A table kept as one row for each column, and a flag that says whether it is in use.
use Rattle.std.specs.Prelude.{◌≡◌, ℕ, ◌+◌, ◌<◌, ◌≤◌, All, Bool, true, false, List, [], ◌∷◌, length, slice_index_or, Option, None, Some}
use Rattle.sc_echelon.specs.Equation.{Row, IsRow}
use Rattle.sc_echelon.specs.Knowledge.{IsBytes}
use Rattle.sc_echelon.specs.Kept.{IsKept}
use Rattle.sc_echelon.specs.Steps.{shift_row}
use Rattle.sc_echelon.specs.Table.{slot}

abbrev pub place : {X : Type 0} → Bool → X → Option X
place true x = Some x
place false x = None

abbrev pub table_of : {X : Type 0} → List Bool → List X → List (Option X)
table_of [] xs = []
table_of (b ∷ bs) [] = []
table_of (b ∷ bs) (x ∷ xs) = place b x ∷ table_of bs xs

-- The rows in use below k are changed by g, and no other row is.
pub record ChangedBelow {X : Type 0} (g : Option X → Option X) (bs : List Bool) (old : List X) (k : ℕ) (new : List X) : Type 0 where
  pub count : length new ≡ length old
  pub done : (i : ℕ) (d : X) → i < k → i < length old → place (slice_index_or bs i false) (slice_index_or new i d) ≡ g (place (slice_index_or bs i false) (slice_index_or old i d))
  pub left : (i : ℕ) (d : X) → k ≤ i → i < length old → slice_index_or new i d ≡ slice_index_or old i d

-- The rows in use from place `count` up to place k are so many places nearer to the front, with their coefficients, and
-- those from k on are as they were.
pub record MovedBelow {A V : Type 0} (zero : A) (count : ℕ) (used : List Bool) (old : List (Row A V)) (k : ℕ) (new : List (Row A V)) : Type 0 where
  pub size : length new ≡ length old
  pub done : (i : ℕ) (d : Row A V) → count + i < k → count + i < length old → slice_index_or used (count + i) false ≡ true → slice_index_or new i d ≡ shift_row zero count (slice_index_or old (count + i) d)
  pub left : (i : ℕ) (d : Row A V) → k ≤ i → slice_index_or new i d ≡ slice_index_or old i d

-- each row in use is an equation of n columns of w bytes
abbrev pub HasRows : {A : Type 0} → (A → Type 0) → ℕ → ℕ → List Bool → List (Row A (List ℕ)) → Type 0
HasRows {A} IsElement n w used rows = (i : ℕ) (r : Row A (List ℕ)) → slot (table_of used rows) i ≡ Some r → IsRow IsElement (IsBytes w) n r

-- each row of a table has a one at its own place
abbrev pub HasOnes : {A V : Type 0} → A → A → List (Option (Row A V)) → Type 0
HasOnes {A} {V} zero one t = (i : ℕ) (r : Row A V) → slot t i ≡ Some r → slice_index_or r.coeffs i zero ≡ one

-- the rows of a table before the place `first`, and from the place `end` on, have a zero at column p
pub record IsZeroOutside {A V : Type 0} (zero : A) (first end p : ℕ) (t : List (Option (Row A V))) : Type 0 where
  pub before : (i : ℕ) (r : Row A V) → slot t i ≡ Some r → i < first → slice_index_or r.coeffs p zero ≡ zero
  pub after : (i : ℕ) (r : Row A V) → slot t i ≡ Some r → end ≤ i → slice_index_or r.coeffs p zero ≡ zero

-- each row of a table is zero from so many places behind its own on
abbrev pub HasReach : {A V : Type 0} → A → ℕ → List (Option (Row A V)) → Type 0
HasReach {A} {V} zero reach t = (i j : ℕ) (r : Row A V) → slot t i ≡ Some r → i + reach ≤ j → slice_index_or r.coeffs j zero ≡ zero

-- each row of a table whose flag is off is zero behind its own place
abbrev pub IsLoneUnless : {A V : Type 0} → A → List Bool → List (Option (Row A V)) → Type 0
IsLoneUnless {A} {V} zero mixed t = (i j : ℕ) (r : Row A V) → slot t i ≡ Some r → slice_index_or mixed i false ≡ false → i < j → slice_index_or r.coeffs j zero ≡ zero

-- How what is known is stored: as many rows as columns, each with room for an equation, and one more to work on.
pub record IsStored {A : Type 0} (IsElement : A → Type 0) (zero one : A) (w reach : ℕ) (mixed used : List Bool) (rows : List (Row A (List ℕ))) (work : Row A (List ℕ)) : Type 0 where
  pub some : 0 < w
  pub kept : IsKept IsElement zero one (length used) w (table_of used rows)
  pub near : HasReach zero reach (table_of used rows)
  pub lone : IsLoneUnless zero mixed (table_of used rows)
  pub flags : length mixed ≡ length used
  pub count : length rows ≡ length used
  pub widths : All (λ r. length r.coeffs ≡ length used) rows
  pub rights : All (λ r. length r.right ≡ w) rows
  pub work_width : length work.coeffs ≡ length used
  pub work_right : length work.right ≡ w
