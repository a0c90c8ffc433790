use Rattle.std.proofs.Common.{◌≡◌}
use Rattle.sc_diag.specs.Made.{matrix_with}
use Rattle.sc_diag.proofs.made.matrix_of.Given as goal

abbrev pub invariant-loop-i : goal.invariant-loop-i
invariant-loop-i g l = l.m ≡ matrix_with l.i (g.E.Entries.cols l.fn.entries) (g.E.Entries.entry l.fn.entries l.lag)
