use Rattle.std.proofs.Common.{ap}
use Rattle.sc_echelon.proofs.NumberRows.{zero_read}
use Rattle.sc_echelon.proofs.equation.Equation.from.Goals as goal

pub returns-clause-zeros : goal.returns-clause-zeros
returns-clause-zeros g c = λ j l.
    zero_read g.met.F.Field.field g.met.F.Field.action g.met.F.Field.numbered g.met.F.Field.by_number c.self.inside.numbers c.args.self.now.coeffs j (ap (λ r. r.coeffs) c.self.view_is) c.self.invariant.all (c.self.invariant.touched.before j l)
