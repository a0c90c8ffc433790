use Rattle.std.proofs.Common.{◌∷◌, ◌-◌, get_or}
use Rattle.sc_field.specs.Terms.{sum_at, sum_from}
use Rattle.sc_field.proofs.Making.{IsMade}
use Rattle.sc_field.proofs.terms.write_long.Given as goal

abbrev pub invariant-loop-at : goal.invariant-loop-at
invariant-loop-at g l =
    IsMade (λ k. sum_at (λ t. g.F.Field.act t.multiplier.coefficient) (λ t. t.at) (l.first ∷ l.rest) l.src k (get_or (sum_from l.fresh l.initial.dst) k 0)) l.initial.dst l.dst l.at

abbrev pub decreases-loop-at : goal.decreases-loop-at
decreases-loop-at g l = l.end - l.at
