use Rattle.sc_matrix.proofs.NumberLaws.{row_scaled}
use Rattle.sc_matrix.proofs.matrix.Matrix.row_scale.Goals as goal

pub invariant_of-self : goal.invariant_of-self
invariant_of-self g c = (row_scaled g.met.F.Field.field g.met.F.Field.action g.met.F.Field.numbered g.met.F.Field.by_number c.self.inside.numbers c.self.invariant c.self.view_is c.args.a c.args.c c.known.ensures c.requires.row c.row_scale.ensures).0

pub returns : goal.returns
returns g c = (row_scaled g.met.F.Field.field g.met.F.Field.action g.met.F.Field.numbered g.met.F.Field.by_number c.self.inside.numbers c.self.invariant c.self.view_is c.args.a c.args.c c.known.ensures c.requires.row c.row_scale.ensures).1
