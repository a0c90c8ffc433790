use Rattle.std.proofs.Common.{◌≡◌, ℕ, get_or, replicate, sym, ap, ◌∙◌}
use Rattle.sc_field.proofs.ScaledSum.{map-none, map-same}
use Rattle.sc_field.proofs.multiplier.Multiplier.set.Goals as goal

pub returns-then-eq : goal.returns-then-eq
returns-then-eq g c =
    let x = c.args.self.now.coefficient in
    let src = c.args.src.now in
    let zero : x ≡ g.F.Field.zero =
    (g.met.F.Field.exact.exact x c.zero.result c.known.ensures c.zero.ensures.element).0 (sym c.eq.ensures ∙ c.if-eq.true) ∙ c.zero.ensures.value in
    c.clear.ensures ∙ ap (λ (n : ℕ). replicate n 0) (sym c.requires)
    ∙ map-none (g.F.Field.act x) src (λ k. ap (λ y. g.F.Field.act y (get_or src k 0)) zero ∙ g.met.F.Field.action.by_zero _ (c.type_inv.src k).fits)

pub returns-then-eq-2 : goal.returns-then-eq-2
returns-then-eq-2 g c =
    let x = c.args.self.now.coefficient in
    let src = c.args.src.now in
    let one : x ≡ g.F.Field.one =
    (g.met.F.Field.exact.exact x c.one.result c.known.ensures c.one.ensures.element).0 (sym c.eq-else-eq.ensures ∙ c.if-eq-2.true) ∙ c.one.ensures.value in
    c.copy.ensures ∙ map-same (g.F.Field.act x) src (λ k. ap (λ y. g.F.Field.act y (get_or src k 0)) one ∙ g.met.F.Field.action.by_one _ (c.type_inv.src k).fits)
