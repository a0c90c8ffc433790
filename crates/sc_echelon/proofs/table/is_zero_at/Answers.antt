use Rattle.std.proofs.Common.{sym, ◌∙◌}
use Rattle.sc_echelon.proofs.table.is_zero_at.Goals as goal

pub returns : goal.returns
returns g c = λ yes.
    sym c.coeff.ensures.value ∙ (g.met.F.Field.exact.exact c.coeff.result c.zero.result c.coeff.ensures.element c.zero.ensures.element).0 (sym c.eq.ensures ∙ yes) ∙ c.zero.ensures.value
