-- What is made by its entries has these entries.
use Rattle.std.specs.Prelude.{◌≡◌, ℕ, ◌+◌, ◌<◌}
use Rattle.sc_matrix.specs.Matrix.{Matrix, row_count, entry}
use Rattle.sc_code.specs.Code.{coefficient}
use Rattle.sc_diag.specs.Made.{matrix_with, code_with}
use Rattle.sc_diag.specs.Diagonal.{interleaved}

-- a matrix by its entries has them
abbrev pub MatricesHaveEntries : Type 0
MatricesHaveEntries =
    (zero : ℕ) (entries : ℕ → ℕ → ℕ) (n c i j : ℕ) → i < n → j < c → entry zero (matrix_with n c entries) i j ≡ entries i j

-- a code by its coefficients has them
abbrev pub CodesHaveCoefficients : Type 0
CodesHaveCoefficients =
    (zero : ℕ) (coefficients : ℕ → ℕ → ℕ → ℕ) (k r count lag i j : ℕ) → lag < count → i < k → j < r
    → coefficient zero (code_with k r count coefficients) lag i j ≡ coefficients lag i j

-- an interleaved code has each entry of the matrix at the lag of its diagonal
abbrev pub DiagonalsHoldTheMatrix : Type 0
DiagonalsHoldTheMatrix =
    (zero : ℕ) (p : Matrix ℕ) (lag i j : ℕ) → i < row_count p → j < p.cols → lag + i ≡ row_count p + j
    → coefficient zero (interleaved zero p) lag i j ≡ entry zero p i j

-- and zero at every other lag, also past the last
abbrev pub OffTheDiagonalsAreZeros : Type 0
OffTheDiagonalsAreZeros =
    (zero : ℕ) (p : Matrix ℕ) (lag i j : ℕ) → i < row_count p → j < p.cols → ¬ (lag + i ≡ row_count p + j)
    → coefficient zero (interleaved zero p) lag i j ≡ zero
