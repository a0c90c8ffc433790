use Rattle.std.proofs.Common.{◌≡◌, ℕ, ◌<◌, ◌≤◌}
use Rattle.sc_matrix.specs.Matrix.{entry}
use Rattle.sc_check.proofs.span.are_zero_from.Given as goal

abbrev pub invariant-loop-i : goal.invariant-loop-i
invariant-loop-i l = (k c : ℕ) → k < l.i → l.from ≤ c → c < l.m.cols → entry 0 l.m k c ≡ 0
