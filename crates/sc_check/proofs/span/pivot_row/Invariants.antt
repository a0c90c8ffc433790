use Rattle.std.proofs.Common.{◌≡◌, ℕ, ◌<◌}
use Rattle.sc_matrix.specs.Matrix.{entry}
use Rattle.sc_check.proofs.span.pivot_row.Given as goal

abbrev pub invariant-loop-i : goal.invariant-loop-i
invariant-loop-i l = (k : ℕ) → k < l.i → entry 0 l.m k l.c ≡ 0
