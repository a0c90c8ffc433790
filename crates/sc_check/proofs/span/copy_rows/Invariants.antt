use Rattle.std.proofs.Common.{◌≡◌, take}
use Rattle.sc_check.proofs.span.copy_rows.Given as goal

abbrev pub invariant-loop-i : goal.invariant-loop-i
invariant-loop-i l = (l.to.cols ≡ l.from.cols) × (l.to.rows ≡ take l.i l.from.rows)
