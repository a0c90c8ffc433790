use Rattle.sc_matrix.specs.Rows.{table}
use Rattle.sc_matrix.proofs.MatrixLaws.{IsMatrix-swap_rows}
use Rattle.sc_matrix.proofs.matrix.Matrix.row_swap.Goals as goal

pub invariant_of-self : goal.invariant_of-self
invariant_of-self g c = rw c.row_swap.ensures (IsMatrix-swap_rows (table c.self.inside.numbers) c.args.a c.args.b c.self.invariant)
