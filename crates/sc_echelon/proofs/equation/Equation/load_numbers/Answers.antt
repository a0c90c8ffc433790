use Rattle.std.proofs.Common.{map, sym, ◌∙◌, ap}
use Rattle.std.proofs.lemmas.List.Elements.{All-same}
use Rattle.sc_field.specs.Field.{IsNumber}
use Rattle.sc_echelon.proofs.Touched.{IsTouched-read}
use Rattle.sc_echelon.proofs.NumberRows.{same_row, size_of}
use Rattle.sc_echelon.proofs.WindowSteps.{put_all}
use Rattle.sc_echelon.proofs.equation.Equation.load_numbers.Goals as goal

pub invariant_of-self : goal.invariant_of-self
invariant_of-self g c =
    let from = c.zeros_before-self-inside in
    let end = c.zeros_behind-self-inside in
    let size = size_of g.F.Field.element c.self.inside.numbers c.args.self.now.coeffs (ap (λ r. r.coeffs) c.self.view_is) in
    record {
      all =
          All-same (IsNumber g.F.Field.IsElement g.F.Field.number g.F.Field.element) _ c.args.numbers.now
          (c.write_at.ensures ∙ put_all c.self.inside.numbers c.args.numbers.now (sym size ∙ c.requires.width)) c.requires.numbers;
      touched = IsTouched-read from.result end.result _ c.as_slice.result.now c.as_slice-2.result.now (sym c.as_slice.ensures) (sym c.as_slice-2.ensures) end.ensures.order end.ensures.within from.ensures.zeros end.ensures.zeros;
    }

pub returns : goal.returns
returns g c =
    let size = size_of g.F.Field.element c.self.inside.numbers c.args.self.now.coeffs (ap (λ r. r.coeffs) c.self.view_is) in
    same_row _ _ _ _
    (ap (map g.F.Field.element) (c.write_at.ensures ∙ put_all c.self.inside.numbers c.args.numbers.now (sym size ∙ c.requires.width)))
    (ap (λ r. r.right) c.self.view_is)
