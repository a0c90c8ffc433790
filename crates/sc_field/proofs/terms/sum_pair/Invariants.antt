use Rattle.std.proofs.Common.{◌∷◌, ◌+◌, take, get_or}
use Rattle.sc_field.specs.Terms.{sum_at, sum_from, Lanes}
use Rattle.sc_field.proofs.terms.sum_pair.Given as goal

abbrev pub invariant-loop-i : goal.invariant-loop-i
invariant-loop-i g l =
    (Lanes l.front 32 32 (λ j. sum_at (λ t. g.F.Field.act t.multiplier.coefficient) (λ t. t.at) (l.first ∷ take l.i l.rest) l.src (l.at + j) (get_or (sum_from l.fresh l.dst) (l.at + j) 0)))
    × (Lanes l.back 32 32 (λ j. sum_at (λ t. g.F.Field.act t.multiplier.coefficient) (λ t. t.at) (l.first ∷ take l.i l.rest) l.src (l.end + j) (get_or (sum_from l.fresh l.dst) (l.end + j) 0)))
