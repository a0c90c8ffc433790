use Rattle.std.proofs.Common.{◌≡◌, take}
use Rattle.sc_codefile.specs.Numbers.{with_cols}
use Rattle.sc_codefile.proofs.ranges.matrix_of.Given as goal

abbrev pub invariant-loop-row : goal.invariant-loop-row
invariant-loop-row l = l.matrix ≡ with_cols l.r (take l.row-index l.rows)
