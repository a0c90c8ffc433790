use Rattle.sc_echelon.specs.Echelon.{IsLastNonzero}
use Rattle.sc_echelon.proofs.equation.last_nonzero.Given as goal

abbrev pub invariant-loop-i : goal.invariant-loop-i
invariant-loop-i l = IsLastNonzero l.xs l.i l.last
