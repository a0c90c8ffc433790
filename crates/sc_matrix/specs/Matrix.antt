-- Matrices, in the standard terms of linear algebra. The operations are parameters, as in Vector: a matrix of elements has
-- `F.add` and `F.mul`, and rows of bytes, to which an element times another row is added, have `bit_xor` and `F.act`.
use Rattle.std.specs.Prelude.{◌≡◌, ◌≢◌, ℕ, ◌<◌, List, [], ◌∷◌, ◌++◌, map, length, take, drop, replicate, All, slice_index_or, slice_set, swap, refl}
use Rattle.std.specs.List.{range_with_len, flat_map}
use Rattle.std.specs.Coded.{Coded, code_by, coded×, coded_ℕ, coded_list}
use Rattle.sc_matrix.specs.Vector.{IsVector, add_vectors, scale_vector, dot, combination, unit_vector}

-- A matrix is its number of columns and the list of its rows. It may have no row, and its columns still count.
pub record Matrix (A : Type 0) : Type 0 where
  pub cols : ℕ
  pub rows : List (List A)

-- a matrix is stored as the pair of its fields
abbrev pub matrix_code : {A : Type 0} → Coded A → Coded (Matrix A)
matrix_code {A} code =
    code_by (ℕ × List (List A)) (coded× coded_ℕ (coded_list (coded_list code))) (λ m. (m.cols, m.rows))
    (λ p. record { cols = p.0; rows = p.1 }) (λ _. refl)

-- the most entries that a matrix has
abbrev pub most_entries : ℕ
most_entries = 67108864

-- Each row has an entry for each column, and each entry is of the kind, as an element of the field.
pub record IsMatrix {A : Type 0} (IsEntry : A → Type 0) (m : Matrix A) : Type 0 where
  pub vectors : All (IsVector IsEntry m.cols) m.rows

module _ {A : Type 0} where
  -- the number of rows
  abbrev pub row_count : Matrix A → ℕ
  row_count m = length m.rows

  -- row i
  abbrev pub row : Matrix A → ℕ → List A
  row m i = slice_index_or m.rows i []

  -- the entry at row i and column j
  abbrev pub entry : A → Matrix A → ℕ → ℕ → A
  entry zero m i j = slice_index_or (row m i) j zero

  -- column j, from the first row down
  abbrev pub column : A → Matrix A → ℕ → List A
  column zero m j = map (λ r. slice_index_or r j zero) m.rows

  -- the matrix with v in place of row i
  abbrev pub with_row : Matrix A → ℕ → List A → Matrix A
  with_row m i v = record m { rows = slice_set m.rows i v }

  -- the matrix with x in place of the entry at row i and column j
  abbrev pub with_entry : Matrix A → ℕ → ℕ → A → Matrix A
  with_entry m i j x = with_row m i (slice_set (row m i) j x)

  -- the matrix with one row more, behind the others
  abbrev pub with_last_row : Matrix A → List A → Matrix A
  with_last_row m v = record m { rows = m.rows ++ v ∷ [] }

  -- the first n rows
  abbrev pub first_rows : ℕ → Matrix A → Matrix A
  first_rows n m = record m { rows = take n m.rows }

  -- n rows and c columns of zeros
  abbrev pub zero_matrix : A → ℕ → ℕ → Matrix A
  zero_matrix zero n c = record { cols = c; rows = replicate n (replicate c zero) }

  -- the identity matrix of n rows
  abbrev pub identity : A → A → ℕ → Matrix A
  identity zero one n = record { cols = n; rows = map (unit_vector zero one n) (range_with_len 0 n) }

  -- row j is column j of m
  abbrev pub transpose : A → Matrix A → Matrix A
  transpose zero m = record { cols = row_count m; rows = map (column zero m) (range_with_len 0 m.cols) }

  -- the entries of m at these rows and these columns
  abbrev pub submatrix : A → Matrix A → List ℕ → List ℕ → Matrix A
  submatrix zero m is js = record { cols = length js; rows = map (λ i. map (entry zero m i) js) is }

  -- the rows of a and then those of b, which has as many columns
  abbrev pub stacked : Matrix A → Matrix A → Matrix A
  stacked a b = record { cols = a.cols; rows = a.rows ++ b.rows }

  -- the sum of two matrices: each row of a plus the row of b at its place
  abbrev pub matrix_sum : (A → A → A) → Matrix A → Matrix A → Matrix A
  matrix_sum add a b = record { cols = a.cols; rows = add_vectors (add_vectors add) a.rows b.rows }

  -- the rows a and b exchanged
  abbrev pub swap_rows : Matrix A → ℕ → ℕ → Matrix A
  swap_rows m a b = record m { rows = swap m.rows a b }

  -- the numbers of columns and rows, and then those of the entries, row after row
  abbrev pub all_numbers : (A → ℕ) → Matrix A → List ℕ
  all_numbers number m = m.cols ∷ row_count m ∷ flat_map (map number) m.rows

  -- place j is the first of the vector that is not zero
  pub record IsFirstNonzero (zero : A) (v : List A) (j : ℕ) : Type 0 where
    pub within : j < length v
    pub nonzero : slice_index_or v j zero ≢ zero
    pub before : (k : ℕ) → k < j → slice_index_or v k zero ≡ zero

module _ {C A : Type 0} where
  -- the product of a matrix and a vector: the dot product of each row with the vector
  abbrev pub apply : A → (A → A → A) → (C → A → A) → Matrix C → List A → List A
  apply zero add mul m v = map (λ r. dot zero add mul r v) m.rows

  -- The product of two matrices: each row of a gives the combination of the rows of b that has its entries as
  -- coefficients. Field `entries` of `AreProductLaws` says the same by dot products of rows and columns.
  abbrev pub product : A → (A → A → A) → (C → A → A) → Matrix C → Matrix A → Matrix A
  product zero add mul a b =
      record { cols = b.cols; rows = map (λ r. combination zero add mul b.cols r b.rows) a.rows }

  -- row a times c
  abbrev pub scale_row : (C → A → A) → Matrix A → ℕ → C → Matrix A
  scale_row mul m a c = with_row m a (scale_vector mul c (row m a))

  -- row a plus c times row b
  abbrev pub add_row : (A → A → A) → (C → A → A) → Matrix A → ℕ → C → ℕ → Matrix A
  add_row add mul m a c b = with_row m a (add_vectors add (row m a) (scale_vector mul c (row m b)))

  -- row a plus c times row b in the columns from `start` on, and as it was before them
  abbrev pub add_row_from : (A → A → A) → (C → A → A) → Matrix A → ℕ → C → ℕ → ℕ → Matrix A
  add_row_from add mul m a c b start =
      with_row m a (take start (row m a) ++ add_vectors add (drop start (row m a)) (scale_vector mul c (drop start (row m b))))

  -- The kernel of m: the vectors, with an entry for each column, that m takes to zero.
  pub record IsInKernel (zero : A) (add : A → A → A) (mul : C → A → A) (m : Matrix C) (v : List A) : Type 0 where
    pub width : length v ≡ m.cols
    pub zeros : apply zero add mul m v ≡ replicate (row_count m) zero
