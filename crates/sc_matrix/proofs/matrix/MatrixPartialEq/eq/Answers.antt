use Rattle.std.proofs.Common.{arith}
use Rattle.std.proofs.lemmas.Grind.{common_steps}
use Rattle.sc_matrix.proofs.EqualLaws.{equal_told}
use Rattle.sc_matrix.proofs.matrix.MatrixPartialEq.eq.Goals as goal

pub returns-then-self-other : goal.returns-then-self-other
returns-then-self-other g c = equal_told g.F.Field.number g.F.Field.element c.self.inside.numbers c.other.inside.numbers c.self.invariant c.self.view_is c.other.invariant c.other.view_is (grind (arith, common_steps))

pub returns-then-self-other-2 : goal.returns-then-self-other-2
returns-then-self-other-2 g c = equal_told g.F.Field.number g.F.Field.element c.self.inside.numbers c.other.inside.numbers c.self.invariant c.self.view_is c.other.invariant c.other.view_is (grind (arith, common_steps))

pub returns : goal.returns
returns g c = equal_told g.F.Field.number g.F.Field.element c.self.inside.numbers c.other.inside.numbers c.self.invariant c.self.view_is c.other.invariant c.other.view_is (grind (arith, common_steps))
