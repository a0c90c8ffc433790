use Rattle.sc_matrix.proofs.NumberLaws.{multiplied}
use Rattle.sc_matrix.proofs.matrix.Matrix.mul.Goals as goal

pub invariant_of-result : goal.invariant_of-result
invariant_of-result g c = (multiplied g.met.F.Field.field g.met.F.Field.action g.met.F.Field.numbered g.met.F.Field.by_number c.self.inside.numbers c.self.invariant c.self.view_is c.other.inside.numbers c.other.invariant c.other.view_is c.in_ok-numbers.ensures).0

pub returns : goal.returns
returns g c = (multiplied g.met.F.Field.field g.met.F.Field.action g.met.F.Field.numbered g.met.F.Field.by_number c.self.inside.numbers c.self.invariant c.self.view_is c.other.inside.numbers c.other.invariant c.other.view_is c.in_ok-numbers.ensures).1
