-- What rows of bytes in one block are: a matrix of bytes.
use Rattle.std.specs.Prelude.{ℕ}
use Rattle.sc_matrix.specs.Matrix.{Matrix}
use Rattle.sc_matrix.specs.Layout.{laid_out}
use Rattle.sc_matrix.specs.declared.rows.Rows.{Rows}

abbrev pub table : Rows → Matrix ℕ
table r = laid_out r.count r.width r.bytes.items
