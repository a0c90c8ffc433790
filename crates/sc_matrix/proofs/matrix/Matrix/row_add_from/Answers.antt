use Rattle.sc_matrix.proofs.NumberLaws.{row_added}
use Rattle.sc_matrix.proofs.matrix.Matrix.row_add_from.Goals as goal

pub invariant_of-self : goal.invariant_of-self
invariant_of-self g c = (row_added g.met.F.Field.field g.met.F.Field.action g.met.F.Field.numbered g.met.F.Field.by_number c.self.inside.numbers c.self.invariant c.self.view_is c.args.a c.args.b c.args.start c.args.c c.known.ensures c.requires.target c.requires.source c.requires.start c.row_add.ensures).0

pub returns : goal.returns
returns g c = (row_added g.met.F.Field.field g.met.F.Field.action g.met.F.Field.numbered g.met.F.Field.by_number c.self.inside.numbers c.self.invariant c.self.view_is c.args.a c.args.b c.args.start c.args.c c.known.ensures c.requires.target c.requires.source c.requires.start c.row_add.ensures).1
