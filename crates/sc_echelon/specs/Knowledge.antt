-- What is known of the byte strings at some columns: all equations that were told, each a coefficient for each column
-- and a right side. What it means is its set of solutions.
use Rattle.std.specs.Prelude.{◌≡◌, ◌≢◌, ◌↔◌, ℕ, ◌-◌, List, [], ◌++◌, take, replicate, bit_xor, slice_index_or}
use Rattle.sc_matrix.specs.Module.{IsByte}
use Rattle.sc_matrix.specs.Vector.{IsVector, add_vectors, scale_vector}
use Rattle.sc_echelon.specs.Equation.{Row, Meets, Solves}

-- a byte string of width w
abbrev pub IsBytes : ℕ → List ℕ → Type 0
IsBytes w = IsVector IsByte w

abbrev pub zero_bytes : ℕ → List ℕ
zero_bytes w = replicate w 0

abbrev pub xor_bytes : List ℕ → List ℕ → List ℕ
xor_bytes = add_vectors bit_xor

-- columns are counted, each stands for a byte string of this width, and the rows are what was told of them
pub record Knowledge (A : Type 0) : Type 0 where
  pub cols : ℕ
  pub width : ℕ
  pub rows : List (Row A (List ℕ))

-- nothing was told
abbrev pub nothing_known : {A : Type 0} → ℕ → ℕ → Knowledge A
nothing_known cols width = record { cols = cols; width = width; rows = [] }

module _ {A : Type 0} (act : A → ℕ → ℕ) where
  -- the product of an element and a byte string, byte by byte
  abbrev pub act_bytes : A → List ℕ → List ℕ
  act_bytes = scale_vector act

  -- the values solve the row
  abbrev pub MeetsRow : ℕ → Row A (List ℕ) → List (List ℕ) → Type 0
  MeetsRow w r vs = Meets (zero_bytes w) xor_bytes act_bytes r vs

  -- a byte string for each column, which together solve each row
  pub record IsSolution (k : Knowledge A) (vs : List (List ℕ)) : Type 0 where
    pub values : IsVector (IsBytes k.width) k.cols vs
    pub solves : Solves (zero_bytes k.width) xor_bytes act_bytes k.rows vs

  -- every solution meets the row
  abbrev pub Follows : Knowledge A → Row A (List ℕ) → Type 0
  Follows k r = (vs : List (List ℕ)) → IsSolution k vs → MeetsRow k.width r vs

  -- no solution meets the row
  abbrev pub Contradicts : Knowledge A → Row A (List ℕ) → Type 0
  Contradicts k r = (vs : List (List ℕ)) → IsSolution k vs → MeetsRow k.width r vs → ⊥

  -- the solutions of new are those of old that meet the row
  abbrev pub Adds : Knowledge A → Row A (List ℕ) → Knowledge A → Type 0
  Adds old r new = (vs : List (List ℕ)) → IsSolution new vs ↔ (IsSolution old vs × MeetsRow old.width r vs)

  -- every solution has these bytes at the column
  abbrev pub IsValueAt : Knowledge A → ℕ → List ℕ → Type 0
  IsValueAt k col bytes = (vs : List (List ℕ)) → IsSolution k vs → slice_index_or vs col [] ≡ bytes

  -- two solutions differ at the column
  pub record IsOpenAt (k : Knowledge A) (col : ℕ) : Type 0 where
    pub one_list : List (List ℕ)
    pub other_list : List (List ℕ)
    pub one_solves : IsSolution k one_list
    pub other_solves : IsSolution k other_list
    pub differ : slice_index_or one_list col [] ≢ slice_index_or other_list col []

  -- A list solves new exactly where some values of count columns in front of it, less its last count values, make a
  -- solution of old.
  abbrev pub Forgets : ℕ → Knowledge A → Knowledge A → Type 0
  Forgets count old new = (vs : List (List ℕ)) → IsVector (IsBytes old.width) old.cols vs
      → IsSolution new vs ↔ ((us : List (List ℕ)) × IsVector (IsBytes old.width) count us × IsSolution old (us ++ take (old.cols - count) vs))
