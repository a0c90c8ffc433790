use Rattle.std.proofs.Common.{◌≡◌, ℕ, ◌<◌, ◌≤◌}
use Rattle.sc_matrix.specs.Matrix.{entry}
use Rattle.sc_check.proofs.span.is_zero_from.Given as goal

abbrev pub invariant-loop-c : goal.invariant-loop-c
invariant-loop-c l = (c : ℕ) → l.from ≤ c → c < l.c → entry 0 l.m l.i c ≡ 0
