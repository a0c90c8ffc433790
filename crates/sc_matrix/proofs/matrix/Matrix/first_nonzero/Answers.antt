use Rattle.sc_matrix.proofs.NumberLaws.{first_found}
use Rattle.sc_matrix.proofs.matrix.Matrix.first_nonzero.Goals as goal

pub returns : goal.returns
returns g c = first_found g.met.F.Field.field g.met.F.Field.action g.met.F.Field.numbered g.met.F.Field.by_number c.self.inside.numbers c.self.invariant c.self.view_is c.first_nonzero.result c.args.i c.requires c.first_nonzero.ensures
