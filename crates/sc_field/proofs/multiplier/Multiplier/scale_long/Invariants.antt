use Rattle.std.proofs.Common.{◌-◌, get_or}
use Rattle.sc_field.proofs.Making.{IsMade}
use Rattle.sc_field.proofs.multiplier.Multiplier.scale_long.Given as goal

abbrev pub invariant-loop-at : goal.invariant-loop-at
invariant-loop-at g l = IsMade (λ k. g.F.Field.act l.self.coefficient (get_or l.initial.dst k 0)) l.initial.dst l.dst l.at

abbrev pub decreases-loop-at : goal.decreases-loop-at
decreases-loop-at g l = l.end - l.at
