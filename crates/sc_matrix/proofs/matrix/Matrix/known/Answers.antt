use Rattle.sc_matrix.proofs.MatrixLaws.{IsMatrix-map}
use Rattle.sc_matrix.specs.Rows.{table}
use Rattle.sc_matrix.proofs.matrix.Matrix.known.Goals as goal

pub returns-clause-shape : goal.returns-clause-shape
returns-clause-shape g c =
    rw (← c.self.view_is) (IsMatrix-map g.F.Field.element g.F.Field.IsElement (table c.self.inside.numbers) (λ n h. h.is_element) c.self.invariant)
