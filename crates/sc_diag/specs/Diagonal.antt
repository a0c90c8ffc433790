-- Diagonal interleaving (Martinian and Sundberg, "Burst erasure correction codes with low decoding delay"): a block code is
-- laid over the diagonals of the stream, so that symbol i of a block and parity symbol j of a slot are of one word where the
-- slot comes k + j - i slots later.
use Rattle.std.specs.Prelude.{ℕ, ◌+◌, ◌==◌, if◌then◌else◌}
use Rattle.sc_matrix.specs.Matrix.{Matrix, row_count, entry}
use Rattle.sc_code.specs.Code.{Code}
use Rattle.sc_diag.specs.Made.{code_with}

module _ {A : Type 0} where
  -- what symbol i gives to parity symbol j of the slot `lag` slots later: the entry of the parity matrix where that is
  -- k + j - i slots, and zero elsewhere
  abbrev pub diagonal_coefficient : A → Matrix A → ℕ → ℕ → ℕ → A
  diagonal_coefficient zero p lag i j = if lag + i == row_count p + j then entry zero p i j else zero

  -- The code of a parity matrix that has k rows and r columns: k symbols in a block, r in a parity, and lags up to k + r - 1.
  abbrev pub interleaved : A → Matrix A → Code A
  interleaved zero p = code_with (row_count p) p.cols (row_count p + p.cols) (diagonal_coefficient zero p)
