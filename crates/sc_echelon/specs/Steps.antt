-- The steps by which a table of rows is kept reduced. The operations of the field and of the values are parameters.
use Rattle.std.specs.Prelude.{◌≡◌, ◌↔◌, ℕ, zero as naught, suc, ◌<◌, List, ◌++◌, map, drop, replicate, Option, None, Some, slice_index_or, slice_set}
use Rattle.sc_matrix.specs.Vector.{add_vectors, scale_vector, IsVector}
use Rattle.sc_echelon.specs.Equation.{Row, IsRow, Meets}
use Rattle.sc_echelon.specs.Table.{slot, SolvesTable}

-- ---- rows
-- the coefficient at column i
abbrev pub entry : {A V : Type 0} → A → Row A V → ℕ → A
entry zero r i = slice_index_or r.coeffs i zero

-- row r plus x times row q
abbrev pub plus_row : {A V : Type 0} → (A → A → A) → (A → A → A) → (V → V → V) → (A → V → V) → Row A V → A → Row A V → Row A V
plus_row add mul plus times r x q =
    record { coeffs = add_vectors add r.coeffs (scale_vector mul x q.coeffs); right = plus r.right (times x q.right) }

-- x times row r
abbrev pub times_row : {A V : Type 0} → (A → A → A) → (A → V → V) → A → Row A V → Row A V
times_row mul times x r = record { coeffs = scale_vector mul x r.coeffs; right = times x r.right }

-- row r, its coefficient at column p cleared by row q, which has a one there
abbrev pub cleared : {A V : Type 0} → A → (A → A → A) → (A → A → A) → (A → A → A) → (V → V → V) → (A → V → V) → Row A V → ℕ → Row A V → Row A V
cleared zero add sub mul plus times r p q = plus_row add mul plus times r (sub zero (entry zero r p)) q

-- ---- a row is reduced by a table
-- row m, cleared at column k by the table's row there
abbrev pub eliminate : {A V : Type 0} → A → (A → A → A) → (A → A → A) → (A → A → A) → (V → V → V) → (A → V → V) → Option (Row A V) → ℕ → Row A V → Row A V
eliminate zero add sub mul plus times None k m = m
eliminate zero add sub mul plus times (Some r) k m = cleared zero add sub mul plus times m k r

-- row q, cleared at the pivots below k
abbrev pub reduce : {A V : Type 0} → A → (A → A → A) → (A → A → A) → (A → A → A) → (V → V → V) → (A → V → V) → List (Option (Row A V)) → ℕ → Row A V → Row A V
reduce zero add sub mul plus times t naught q = q
reduce zero add sub mul plus times t (suc k) q = eliminate zero add sub mul plus times (slot t k) k (reduce zero add sub mul plus times t k q)

-- Row m is what is left of row q once the pivots below k are cleared: to the table's solutions it says what q says.
pub record IsLeft {A V : Type 0} (IsElement : A → Type 0) (zero : A) (IsValue : V → Type 0) (none : V) (plus : V → V → V) (times : A → V → V) (n : ℕ) (t : List (Option (Row A V))) (q : Row A V) (k : ℕ) (m : Row A V) : Type 0 where
  pub row : IsRow IsElement IsValue n m
  pub clear : (i : ℕ) (r : Row A V) → slot t i ≡ Some r → i < k → slice_index_or m.coeffs i zero ≡ zero
  pub same : (vs : List V) → IsVector IsValue n vs → SolvesTable none plus times t vs → Meets none plus times m vs ↔ Meets none plus times q vs

-- ---- a row goes into a table
-- row m, scaled to a one at column p
abbrev pub led : {A V : Type 0} → A → (A → A → A) → (A → A) → (A → V → V) → ℕ → Row A V → Row A V
led zero mul inv times p m = times_row mul times (inv (entry zero m p)) m

-- a table's place, cleared at column p by row q
abbrev pub clear_at : {A V : Type 0} → A → (A → A → A) → (A → A → A) → (A → A → A) → (V → V → V) → (A → V → V) → ℕ → Row A V → Option (Row A V) → Option (Row A V)
clear_at zero add sub mul plus times p q None = None
clear_at zero add sub mul plus times p q (Some r) = Some (cleared zero add sub mul plus times r p q)

-- row q at pivot p, and its column cleared in the other rows
abbrev pub insert : {A V : Type 0} → A → (A → A → A) → (A → A → A) → (A → A → A) → (V → V → V) → (A → V → V) → ℕ → Row A V → List (Option (Row A V)) → List (Option (Row A V))
insert zero add sub mul plus times p q t = slice_set (map (clear_at zero add sub mul plus times p q) t) p (Some q)

-- ---- the first columns are forgotten
-- a row without its first count coefficients, and as many zeros at its end
abbrev pub shift_row : {A V : Type 0} → A → ℕ → Row A V → Row A V
shift_row zero count r = record { coeffs = drop count r.coeffs ++ replicate count zero; right = r.right }

abbrev pub shift : {A V : Type 0} → A → ℕ → Option (Row A V) → Option (Row A V)
shift zero count None = None
shift zero count (Some r) = Some (shift_row zero count r)

-- the table without its first count places, and as many empty ones at its end
abbrev pub forget : {A V : Type 0} → A → ℕ → List (Option (Row A V)) → List (Option (Row A V))
forget zero count t = map (shift zero count) (drop count t) ++ replicate count None
