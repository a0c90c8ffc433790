use Rattle.std.proofs.Common.{map, sym, ◌∙◌, ap}
use Rattle.std.proofs.lemmas.List.{with_items_is}
use Rattle.std.proofs.lemmas.List.Elements.{All-same}
use Rattle.sc_field.specs.Field.{IsNumber}
use Rattle.sc_echelon.proofs.Touched.{IsTouched-read}
use Rattle.sc_echelon.proofs.NumberRows.{numbers_of, elements_back, same_row}
use Rattle.sc_echelon.proofs.equation.Equation.load.Goals as goal

pub invariant_of-self : goal.invariant_of-self
invariant_of-self g c =
    let Number = IsNumber g.F.Field.IsElement g.F.Field.number g.F.Field.element in
    let from = c.zeros_before-self-inside in
    let end = c.zeros_behind-self-inside in
    record {
      all =
          All-same Number _ (map g.F.Field.number c.args.coeffs.now) c.write_numbers.ensures.value
          (numbers_of g.met.F.Field.field g.met.F.Field.action g.met.F.Field.numbered g.met.F.Field.by_number c.args.coeffs.now c.write_numbers.ensures.elements);
      touched = IsTouched-read from.result end.result _ c.as_slice.result.now c.as_slice-2.result.now (sym c.as_slice.ensures) (sym c.as_slice-2.ensures) end.ensures.order end.ensures.within from.ensures.zeros end.ensures.zeros;
    }

pub returns-clause-value : goal.returns-clause-value
returns-clause-value g c =
    same_row _ _ _ _
    (ap (map g.F.Field.element) c.write_numbers.ensures.value
    ∙ elements_back g.met.F.Field.field g.met.F.Field.action g.met.F.Field.numbered g.met.F.Field.by_number c.args.coeffs.now c.write_numbers.ensures.elements)
    (with_items_is c.self.inside.right c.copy_from_slice.new.self (c.copy_from_slice.auto.self ∙ c.as_mut_slice.ensures.len) ∙ c.copy_from_slice.ensures.after)
