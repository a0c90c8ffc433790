use Rattle.std.proofs.Common.{ap, arith}
use Rattle.std.proofs.lemmas.List.Elements.{All-push}
use Rattle.sc_field.specs.Field.{IsNumber}
use Rattle.sc_matrix.specs.Vector.{IsVector}
use Rattle.sc_matrix.specs.Matrix.{Matrix}
use Rattle.sc_matrix.specs.Rows.{table}
use Rattle.sc_matrix.proofs.matrix.Matrix.push_row.Goals as goal

pub invariant_of-self-2 : goal.invariant_of-self-2
invariant_of-self-2 g c =
    let r = c.self.inside.numbers in
    let pushed : IsVector (IsNumber g.F.Field.IsElement g.F.Field.number g.F.Field.element) r.width c.args.numbers.now =
    record { width = omega (arith, ap (λ (m : Matrix g.row.F.Denot). m.cols) c.self.view_is); entries = c.requires.numbers } in
    rw c.in_ok-push_row.ensures.pushed record { vectors = All-push (IsVector (IsNumber g.F.Field.IsElement g.F.Field.number g.F.Field.element) r.width) (table r).rows c.args.numbers.now c.self.invariant.vectors pushed }
