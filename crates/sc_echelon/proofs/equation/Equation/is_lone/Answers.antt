use Rattle.std.proofs.Common.{ap, inl, inr, arith}
use Rattle.std.proofs.lemmas.Bool.{cases_lt}
use Rattle.sc_echelon.proofs.NumberRows.{zero_read}
use Rattle.sc_echelon.proofs.equation.Equation.is_lone.Goals as goal

pub returns : goal.returns
returns g c = λ yes j ne.
    let h = c.self.invariant.touched in
    let is = ap (λ r. r.coeffs) c.self.view_is in
    elim (cases_lt j c.args.col) [
      | inl low ↦ zero_read g.met.F.Field.field g.met.F.Field.action g.met.F.Field.numbered g.met.F.Field.by_number c.self.inside.numbers c.args.self.now.coeffs j is c.self.invariant.all (h.before j (omega arith))
      | inr high ↦ zero_read g.met.F.Field.field g.met.F.Field.action g.met.F.Field.numbered g.met.F.Field.by_number c.self.inside.numbers c.args.self.now.coeffs j is c.self.invariant.all (h.after j (omega arith))
    ]
