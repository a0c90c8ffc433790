use Rattle.std.proofs.Common.{◌++◌, ◌-◌, map, drop, replicate, sym, ◌∙◌, ap, subst, arith}
use Rattle.sc_field.specs.Field.{IsNumber}
use Rattle.sc_echelon.specs.Touched.{IsTouched}
use Rattle.sc_echelon.proofs.NumberRows.{numbers_shifted, elements_shifted, size_of, same_row}
use Rattle.sc_echelon.proofs.Touched.{IsTouchedRow-same, IsTouched-shifted}
use Rattle.sc_echelon.proofs.equation.Equation.shift.Goals as goal

pub invariant_of-self : goal.invariant_of-self
invariant_of-self g c =
    let Number = IsNumber g.F.Field.IsElement g.F.Field.number g.F.Field.element in
    let ns = c.self.inside.numbers in
    let count = c.args.count in
    let size = size_of g.F.Field.element ns c.args.self.now.coeffs (ap (λ r. r.coeffs) c.self.view_is) in
    let requires = c.requires in
    IsTouchedRow-same Number c.saturating_sub-self-inside.result c.saturating_sub-self-inside-2.result c.shift.new.self (drop count ns ++ replicate count 0) c.shift.ensures
    (record {
      all = numbers_shifted g.met.F.Field.field g.met.F.Field.action g.met.F.Field.numbered g.met.F.Field.by_number count ns c.self.invariant.all;
      touched =
          subst (λ i. IsTouched i c.saturating_sub-self-inside-2.result (drop count ns ++ replicate count 0)) (sym c.saturating_sub-self-inside.ensures)
          (subst (λ i. IsTouched (c.self.inside.from - count) i (drop count ns ++ replicate count 0)) (sym c.saturating_sub-self-inside-2.ensures)
          (IsTouched-shifted count c.self.inside.from c.self.inside.end ns (omega arith) c.self.invariant.touched));
    })

pub returns : goal.returns
returns g c =
    same_row _ _ _ _
    (ap (map g.F.Field.element) c.shift.ensures
    ∙ elements_shifted g.met.F.Field.field g.met.F.Field.action g.met.F.Field.numbered g.met.F.Field.by_number c.args.count c.self.inside.numbers
    ∙ ap (λ r. drop c.args.count r.coeffs ++ replicate c.args.count g.F.Field.zero) c.self.view_is)
    (ap (λ r. r.right) c.self.view_is)
