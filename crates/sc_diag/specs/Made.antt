-- Matrices and codes by their entries.
use Rattle.std.specs.Prelude.{ℕ, map}
use Rattle.std.specs.List.{range_with_len}
use Rattle.sc_matrix.specs.Matrix.{Matrix}
use Rattle.sc_code.specs.Code.{Code}

module _ {A : Type 0} where
  -- the matrix of n rows and c columns with these entries, by row and column
  abbrev pub matrix_with : ℕ → ℕ → (ℕ → ℕ → A) → Matrix A
  matrix_with n c entries = record { cols = c; rows = map (λ i. map (entries i) (range_with_len 0 c)) (range_with_len 0 n) }

  -- the code of k and r symbols with these coefficients, by lag, row and column, at so many lags from 0 on
  abbrev pub code_with : ℕ → ℕ → ℕ → (ℕ → ℕ → ℕ → A) → Code A
  code_with k r count coefficients =
      record { k = k; r = r; lags = map (λ lag. matrix_with k r (coefficients lag)) (range_with_len 0 count) }
