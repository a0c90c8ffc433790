use Rattle.std.proofs.Common.{map, ◌∙◌, ap}
use Rattle.std.proofs.lemmas.List.{with_items_is}
use Rattle.sc_field.specs.Field.{IsNumber}
use Rattle.sc_matrix.specs.Vector.{scale_vector}
use Rattle.sc_field.specs.ActionLemmas.{act_zero}
use Rattle.sc_echelon.proofs.Touched.{IsTouchedRow-same, IsTouched-map}
use Rattle.sc_echelon.proofs.NumberRows.{numbers_scaled, elements_scaled, same_row}
use Rattle.sc_echelon.proofs.equation.Equation.multiply_by.Goals as goal

pub invariant_of-self : goal.invariant_of-self
invariant_of-self g c =
    let act = g.F.Field.act in
    let x = c.args.by.now.coefficient in
    let ns = c.self.inside.numbers in
    let Number = IsNumber g.F.Field.IsElement g.F.Field.number g.F.Field.element in
    IsTouchedRow-same Number c.self.inside.from c.self.inside.end _ (map (act x) ns) c.scale_between.ensures
    (record {
      all = numbers_scaled g.met.F.Field.field g.met.F.Field.action g.met.F.Field.numbered g.met.F.Field.by_number ns x c.known.ensures c.self.invariant.all;
      touched = IsTouched-map (act x) ns c.self.inside.from c.self.inside.end (act_zero g.met.F.Field.field g.met.F.Field.action x c.known.ensures) c.self.invariant.touched;
    })

pub returns : goal.returns
returns g c =
    let act = g.F.Field.act in
    let mul = g.F.Field.mul in
    let ns = c.self.inside.numbers in
    let x = c.args.by.now.coefficient in
    same_row _ _ _ _
    (ap (map g.F.Field.element) c.scale_between.ensures
    ∙ elements_scaled g.met.F.Field.field g.met.F.Field.action g.met.F.Field.numbered g.met.F.Field.by_number ns x c.known.ensures c.self.invariant.all
    ∙ ap (scale_vector mul x) (ap (λ r. r.coeffs) c.self.view_is))
    (with_items_is c.self.inside.right c.scale.new.dst (c.scale.auto.dst ∙ c.as_mut_slice.ensures.len)
    ∙ c.scale.ensures ∙ ap (map (act x)) (c.as_mut_slice.ensures.value ∙ ap (λ r. r.right) c.self.view_is))
