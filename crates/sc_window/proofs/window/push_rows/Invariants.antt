use Rattle.std.proofs.Common.{◌≡◌, ◌≤◌, ◌*◌, ◌++◌, drop}
use Rattle.sc_channel.specs.Flags.{set_count}
use Rattle.sc_matrix.specs.Matrix.{row_count}
use Rattle.sc_window.specs.Rows.{window_rows}
use Rattle.sc_window.proofs.window.push_rows.Given as goal

-- with those of the slots left they are all rows
abbrev pub invariant-loop-t : goal.invariant-loop-t
invariant-loop-t g l = record {
  cols : l.matrix.cols ≡ l.code.k * set_count l.class;
  count : row_count l.matrix ≤ l.code.r * l.t;
  rows : l.matrix.rows ++ window_rows g.F.Field.zero l.code l.class l.t (drop l.t l.class) ≡ window_rows g.F.Field.zero l.code l.class 0 l.class;
}
