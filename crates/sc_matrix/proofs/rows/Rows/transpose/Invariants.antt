use Rattle.std.proofs.Common.{◌≡◌, ◌*◌, length, take}
use Rattle.sc_matrix.specs.Matrix.{transpose}
use Rattle.sc_matrix.specs.Layout.{cut}
use Rattle.sc_matrix.specs.Rows.{table}
use Rattle.sc_matrix.proofs.rows.Rows.transpose.Given as goal

abbrev pub invariant-loop-j : goal.invariant-loop-j
invariant-loop-j l =
    record { size : length l.bytes.items ≡ l.j * l.self.count; rows : cut l.j l.self.count l.bytes.items ≡ take l.j (transpose 0 (table l.self)).rows }
