use Rattle.sc_matrix.proofs.NumberLaws.{part_taken}
use Rattle.sc_matrix.proofs.matrix.Matrix.submatrix.Goals as goal

pub invariant_of-result : goal.invariant_of-result
invariant_of-result g c = (part_taken g.met.F.Field.field g.met.F.Field.action g.met.F.Field.numbered g.met.F.Field.by_number c.self.inside.numbers c.self.invariant c.self.view_is c.args.rows.now c.args.cols.now c.in_ok-numbers.ensures).0

pub returns : goal.returns
returns g c = (part_taken g.met.F.Field.field g.met.F.Field.action g.met.F.Field.numbered g.met.F.Field.by_number c.self.inside.numbers c.self.invariant c.self.view_is c.args.rows.now c.args.cols.now c.in_ok-numbers.ensures).1
