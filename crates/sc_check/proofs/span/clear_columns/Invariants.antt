use Rattle.std.proofs.Common.{◌≡◌, ◌+◌, ◌≤◌}
use Rattle.sc_matrix.specs.Matrix.{row_count}
use Rattle.sc_check.specs.Span.{IsCleared}
use Rattle.sc_check.proofs.span.clear_columns.Given as goal

abbrev pub invariant-loop-j : goal.invariant-loop-j
invariant-loop-j l = IsCleared l.fn.m l.m l.from (l.from + l.j) × (row_count l.m ≤ row_count l.fn.m) × (l.m.cols ≡ l.fn.m.cols)
