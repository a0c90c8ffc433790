use Rattle.std.proofs.Common.{map, ◌∙◌, ap}
use Rattle.std.proofs.lemmas.List.Elements.{All-same}
use Rattle.sc_field.specs.Field.{IsNumber}
use Rattle.sc_echelon.proofs.NumberRows.{first_found}
use Rattle.sc_echelon.proofs.equation.Equation.first_nonzero.Goals as goal

pub returns : goal.returns
returns g c =
    let element = g.F.Field.element in
    let Number = IsNumber g.F.Field.IsElement g.F.Field.number element in
    first_found g.met.F.Field.field g.met.F.Field.action g.met.F.Field.numbered g.met.F.Field.by_number c.as_slice.result.now c.args.self.now.coeffs
    (ap (map element) c.as_slice.ensures ∙ ap (λ r. r.coeffs) c.self.view_is) (All-same Number _ _ c.as_slice.ensures c.self.invariant.all)
    c.first_nonzero.result c.first_nonzero.ensures
