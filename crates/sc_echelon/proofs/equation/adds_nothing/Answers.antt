use Rattle.std.proofs.Common.{◌≡◌, get_or, sym, ap, ◌∙◌}
use Rattle.sc_field.proofs.ScaledSum.{scaled_sum-none}
use Rattle.sc_echelon.proofs.equation.adds_nothing.Goals as goal

pub returns-clause-first : goal.returns-clause-first
returns-clause-first g c = λ yes.
    let x = c.args.c in
    let zero : x ≡ g.F.Field.zero =
    (g.met.F.Field.exact.exact x c.zero.result c.known.ensures c.zero.ensures.element).0 (sym c.eq.ensures ∙ yes) ∙ c.zero.ensures.value in
    sym (scaled_sum-none (g.F.Field.act x) c.args.first.now c.args.one.now
    (λ k. ap (λ y. g.F.Field.act y (get_or c.args.one.now k 0)) zero ∙ g.met.F.Field.action.by_zero _ (c.type_inv.one k).fits))

pub returns-clause-second : goal.returns-clause-second
returns-clause-second g c = λ yes.
    let x = c.args.c in
    let zero : x ≡ g.F.Field.zero =
    (g.met.F.Field.exact.exact x c.zero.result c.known.ensures c.zero.ensures.element).0 (sym c.eq.ensures ∙ yes) ∙ c.zero.ensures.value in
    sym (scaled_sum-none (g.F.Field.act x) c.args.second.now c.args.other.now
    (λ k. ap (λ y. g.F.Field.act y (get_or c.args.other.now k 0)) zero ∙ g.met.F.Field.action.by_zero _ (c.type_inv.other k).fits))
