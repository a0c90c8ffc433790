use Rattle.std.proofs.Common.{ℕ, ◌<◌}
use Rattle.sc_echelon.specs.Kernel.{IsKernelVector, IsFree}
use Rattle.sc_window.proofs.decide.none_free.Given as goal

abbrev pub invariant-loop-col : goal.invariant-loop-col
invariant-loop-col g l =
    (j : ℕ) → j < l.col → IsFree g.F.Field.zero (IsKernelVector g.F.Field.IsElement g.F.Field.zero g.F.Field.add g.F.Field.mul l.reduced.cols l.reduced.rows) j → ⊥
