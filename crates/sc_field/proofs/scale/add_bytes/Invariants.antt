use Rattle.sc_field.proofs.SumSteps.{IsSumUpTo}
use Rattle.sc_field.proofs.scale.add_bytes.Given as goal

abbrev pub invariant-loop-i : goal.invariant-loop-i
invariant-loop-i l = IsSumUpTo (λ b. b) l.initial.dst l.src l.dst l.i
