use Rattle.std.proofs.Common.{◌<◌, [], arith}
use Rattle.sc_field.specs.ActionLemmas.{is_number}
use Rattle.sc_matrix.specs.Matrix.{row, row_count}
use Rattle.sc_matrix.specs.Rows.{table}
use Rattle.sc_matrix.proofs.VectorLaws.{IsVector-set}
use Rattle.sc_matrix.proofs.MatrixLaws.{IsMatrix-with_row}
use Rattle.sc_matrix.proofs.MatrixLaws.{matrix_steps}
use Rattle.sc_matrix.proofs.matrix.Matrix.set.Goals as goal

pub invariant_of-self : goal.invariant_of-self
invariant_of-self g c =
    let r = c.self.inside.numbers in
    let within : c.args.i < row_count (table r) = grind (arith, matrix_steps) in
    let number = is_number g.met.F.Field.field g.met.F.Field.action g.met.F.Field.numbered g.met.F.Field.by_number c.args.value c.known.ensures in
    rw (c.set.ensures, c.number.ensures)
    (IsMatrix-with_row (table r) c.args.i _ c.self.invariant (IsVector-set (row (table r) c.args.i) c.args.j _ (c.self.invariant.vectors c.args.i [] within) number))

pub returns : goal.returns
returns g c = grind (arith, matrix_steps, g.met.F.Field.numbered.element_number c.args.value c.known.ensures)
