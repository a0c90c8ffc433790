use Rattle.std.proofs.Common.{◌≡◌, ◌*◌, length, take}
use Rattle.sc_matrix.specs.Matrix.{submatrix}
use Rattle.sc_matrix.specs.Layout.{cut}
use Rattle.sc_matrix.specs.Rows.{table}
use Rattle.sc_matrix.proofs.rows.Rows.submatrix.Given as goal

abbrev pub invariant-loop-i : goal.invariant-loop-i
invariant-loop-i l =
    record {
      size : length l.bytes.items ≡ l.i-index * length l.places;
      rows : cut l.i-index (length l.places) l.bytes.items ≡ take l.i-index (submatrix 0 (table l.self) l.rows l.places).rows;
    }
