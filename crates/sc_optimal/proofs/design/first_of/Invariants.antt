use Rattle.sc_optimal.proofs.DesignSteps.{IsBehind}
use Rattle.sc_optimal.proofs.design.first_of.Given as goal

abbrev pub invariant-loop-c : goal.invariant-loop-c
invariant-loop-c g l = IsBehind l.kind l.fn.channel l.c
