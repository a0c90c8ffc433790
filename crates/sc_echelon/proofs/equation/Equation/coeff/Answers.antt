use Rattle.std.proofs.Common.{◌≡◌, get_or, sym, ◌∙◌, ap, arith}
use Rattle.sc_echelon.proofs.NumberRows.{size_of, entry-zero}
use Rattle.sc_echelon.proofs.equation.Equation.coeff.Goals as goal
use Rattle.sc_echelon.proofs.equation.Equation.coeff.Goals.{then-i-self-via-then-i-self, then-i-self-via-else-i-self+then-self-i}

pub returns-then-i-self-clause-value : goal.returns-then-i-self-clause-value
returns-then-i-self-clause-value g c =
    let ns = c.self.inside.numbers in
    let i = c.args.i in
    let is = ap (λ r. r.coeffs) c.self.view_is in
    let size = size_of g.F.Field.element ns c.args.self.now.coeffs is in
    let requires = c.requires in
    let untouched : get_or ns i 0 ≡ 0 = elim c.then-i-self.branch [
      | then-i-self-via-then-i-self w ↦ c.self.invariant.touched.before i w.if-i-self.true
      | then-i-self-via-else-i-self+then-self-i w ↦ c.self.invariant.touched.after i w.if-self-i.true
    ] in
    c.zero.ensures.value
    ∙ sym ((entry-zero g.met.F.Field.field g.met.F.Field.action g.met.F.Field.numbered g.met.F.Field.by_number ns i c.self.invariant.all (omega arith)).1 untouched)
    ∙ ap (λ cs. get_or cs i g.F.Field.zero) is
