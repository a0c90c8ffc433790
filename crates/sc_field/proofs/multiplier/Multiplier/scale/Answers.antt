use Rattle.std.proofs.Common.{◌≡◌, get_or, sym, ap, ◌∙◌}
use Rattle.std.proofs.lemmas.Bool.{not-false}
use Rattle.sc_field.proofs.ScaledSum.{map-none, map-same}
use Rattle.sc_field.proofs.multiplier.Multiplier.scale.Goals as goal

pub returns-then-eq : goal.returns-then-eq
returns-then-eq g c =
    let x = c.args.self.now.coefficient in
    let old = c.args.dst.now in
    let zero : x ≡ g.F.Field.zero =
    (g.met.F.Field.exact.exact x c.zero.result c.known.ensures c.zero.ensures.element).0 (sym c.eq.ensures ∙ c.if-eq.true) ∙ c.zero.ensures.value in
    c.clear.ensures ∙ map-none (g.F.Field.act x) old (λ k. ap (λ y. g.F.Field.act y (get_or old k 0)) zero ∙ g.met.F.Field.action.by_zero _ (c.are_bytes.ensures k))

pub returns-else-ne : goal.returns-else-ne
returns-else-ne g c =
    let x = c.args.self.now.coefficient in
    let old = c.args.dst.now in
    let one : x ≡ g.F.Field.one =
    (g.met.F.Field.exact.exact x c.one.result c.known.ensures c.one.ensures.element).0 (not-false _ (sym c.ne.ensures ∙ c.if-ne.false)) ∙ c.one.ensures.value in
    map-same (g.F.Field.act x) old (λ k. ap (λ y. g.F.Field.act y (get_or old k 0)) one ∙ g.met.F.Field.action.by_one _ (c.type_inv.dst k).fits)
