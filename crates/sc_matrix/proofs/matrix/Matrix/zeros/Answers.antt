use Rattle.std.proofs.Common.{arith}
use Rattle.sc_matrix.proofs.NumberLaws.{element_zero}
use Rattle.sc_matrix.proofs.MatrixLaws.{matrix_steps}
use Rattle.sc_matrix.proofs.matrix.Matrix.zeros.Goals as goal

pub returns : goal.returns
returns g c = grind (arith, matrix_steps, element_zero g.met.F.Field.field g.met.F.Field.action g.met.F.Field.numbered g.met.F.Field.by_number)
