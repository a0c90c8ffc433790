-- Matrices and codes that are made by their entries.
use Rattle.std.proofs.Common.{◌≡◌, inl, inr, ℕ, ◌+◌, ◌<◌, Bool, if◌then◌else◌, List, [], All, length, get_or, map, ◌≢◌, Result, Ok, Err, IsOk, refl, sym, ap, ◌∙◌, arith}
use Rattle.std.specs.List.{range_with_len}
use Rattle.std.proofs.lemmas.Bool.{ne_eqb, eq-eqb, cases_lt}
use Rattle.std.proofs.lemmas.List.{get_or_past}
use Rattle.std.proofs.lemmas.List.FromFn.{length-map-range_with_len, get_or-map-range_with_len, map-range_with_len_more}
use Rattle.sc_matrix.specs.Matrix.{Matrix, row_count, entry, with_last_row}
use Rattle.sc_code.specs.declared.code.CodeFault.{CodeFault}
use Rattle.sc_code.specs.declared.code.CodeFault.TheVariants.{Range, Shape}
use Rattle.sc_code.specs.Code.{Code, HasShape, coefficient}
use Rattle.sc_code.proofs.ColumnLaws.{All-map_range}
use Rattle.sc_diag.specs.Made.{matrix_with, code_with}
use Rattle.sc_diag.specs.Diagonal.{diagonal_coefficient, interleaved}

module _ {A : Type 0} where
  pub row_count-matrix_with : (n c : ℕ) (entries : ℕ → ℕ → A) → row_count (matrix_with n c entries) ≡ n
  row_count-matrix_with n c entries = length-map-range_with_len (λ i. map (entries i) (range_with_len 0 c)) 0 n

  pub entry-matrix_with : (zero : A) (entries : ℕ → ℕ → A) (n c i j : ℕ) → i < n → j < c → entry zero (matrix_with n c entries) i j ≡ entries i j
  entry-matrix_with zero entries n c i j hi hj =
      ap (λ (r : List A). get_or r j zero) (get_or-map-range_with_len (λ i. map (entries i) (range_with_len 0 c)) 0 n i i [] hi (omega arith))
      ∙ get_or-map-range_with_len (entries i) 0 c j j zero hj (omega arith)

  -- each matrix has the sizes of the code
  pub shapes-code_with : (k r count : ℕ) (coefficients : ℕ → ℕ → ℕ → A) → All (HasShape k r) (code_with k r count coefficients).lags
  shapes-code_with k r count coefficients =
      All-map_range (HasShape k r) (λ lag. matrix_with k r (coefficients lag)) count (λ lag h. record { rows = row_count-matrix_with k r (coefficients lag); cols = refl })

  pub length-lags : (k r count : ℕ) (coefficients : ℕ → ℕ → ℕ → A) → length (code_with k r count coefficients).lags ≡ count
  length-lags k r count coefficients = length-map-range_with_len (λ lag. matrix_with k r (coefficients lag)) 0 count

  pub coefficient-code_with : (zero : A) (coefficients : ℕ → ℕ → ℕ → A) (k r count lag i j : ℕ) → lag < count → i < k → j < r
      → coefficient zero (code_with k r count coefficients) lag i j ≡ coefficients lag i j
  coefficient-code_with zero coefficients k r count lag i j hl hi hj =
      ap (λ (m : Matrix A). entry zero m i j) (get_or-map-range_with_len (λ lag. matrix_with k r (coefficients lag)) 0 count lag lag (record { cols = 0; rows = [] }) hl (omega arith))
      ∙ entry-matrix_with zero (coefficients lag) k r i j hi hj

  -- past the last lag there is no matrix
  pub coefficient-past : (zero : A) (coefficients : ℕ → ℕ → ℕ → A) (k r count lag i j : ℕ) → ¬ (lag < count) → coefficient zero (code_with k r count coefficients) lag i j ≡ zero
  coefficient-past zero coefficients k r count lag i j h =
      ap (λ (m : Matrix A). entry zero m i j)
      (get_or_past (code_with k r count coefficients).lags lag (record { cols = 0; rows = [] }) (let l = length-lags k r count coefficients in grind (arith, l)))

  pub diagonals : (zero : A) (p : Matrix A) (lag i j : ℕ) → i < row_count p → j < p.cols → lag + i ≡ row_count p + j
      → coefficient zero (interleaved zero p) lag i j ≡ entry zero p i j
  diagonals zero p lag i j hi hj e =
      coefficient-code_with zero (diagonal_coefficient zero p) (row_count p) p.cols (row_count p + p.cols) lag i j (omega arith) hi hj
      ∙ ap (λ (b : Bool). if b then entry zero p i j else zero) (eq-eqb (lag + i) (row_count p + j) e)

  pub others : (zero : A) (p : Matrix A) (lag i j : ℕ) → i < row_count p → j < p.cols → ¬ (lag + i ≡ row_count p + j)
      → coefficient zero (interleaved zero p) lag i j ≡ zero
  others zero p lag i j hi hj ne = elim (cases_lt lag (row_count p + p.cols)) [
    | inl h ↦
        coefficient-code_with zero (diagonal_coefficient zero p) (row_count p) p.cols (row_count p + p.cols) lag i j h hi hj
        ∙ ap (λ (b : Bool). if b then entry zero p i j else zero) (ne_eqb (lag + i) (row_count p + j) ne)
    | inr past ↦ coefficient-past zero (diagonal_coefficient zero p) (row_count p) p.cols (row_count p + p.cols) lag i j (λ h. absurd (omega arith))
  ]

  -- one row more
  pub with_last_row-matrix_with : (n c : ℕ) (entries : ℕ → ℕ → A) → with_last_row (matrix_with n c entries) (map (entries n) (range_with_len 0 c)) ≡ matrix_with (n + 1) c entries
  with_last_row-matrix_with n c entries =
      ap (λ (rows : List (List A)). let m : Matrix A = record { cols = c; rows = rows } in m) (sym (map-range_with_len_more (λ i. map (entries i) (range_with_len 0 c)) 0 n n (omega arith)))

-- a fault of neither kind is none
pub no_code_fault : {A : Type 0} (result : Result (Code A) CodeFault) → (result ≢ Err Range) → (result ≢ Err Shape) → IsOk result
no_code_fault (Ok code) a b = refl
no_code_fault (Err Range) a b = absurd (a refl)
no_code_fault (Err Shape) a b = absurd (b refl)
