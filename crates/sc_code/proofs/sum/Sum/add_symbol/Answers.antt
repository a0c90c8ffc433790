use Rattle.std.proofs.Common.{sym, refl, subst, ◌+◌, ◌*◌, ◌∙◌}
use Rattle.std.proofs.lemmas.Bool.{both_ways}
use Rattle.sc_code.specs.Sum.{HasTerms}
use Rattle.sc_code.proofs.SumSteps.{HasTerms-push, HasTerms-skip}
use Rattle.sc_code.proofs.sum.Sum.add_symbol.Goals as goal

pub returns-then-eq : goal.returns-then-eq
returns-then-eq g c =
    let same = (g.met.F.Field.exact.exact c.coefficient-c.result c.zero.result c.coefficient-c.ensures.element c.zero.ensures.element).0 (sym c.eq.ensures ∙ c.if-eq.true) in
    HasTerms-skip g.met.F.Field.action c.args.code.now c.args.width c.args.j c.args.lag c.args.i c.args.self.now (sym c.coefficient-c.ensures.value ∙ same ∙ c.zero.ensures.value) c.requires.terms

pub returns-in_ok-push : goal.returns-in_ok-push
returns-in_ok-push g c =
    let exact = g.met.F.Field.exact.exact c.coefficient-c.result c.zero.result c.coefficient-c.ensures.element c.zero.ensures.element in
    subst (HasTerms g.F.Field.zero g.F.Field.act c.args.code.now c.args.width c.args.j c.args.lag (c.args.i + 1)) (sym c.in_ok-push.ensures)
    (HasTerms-push g.F.Field.zero g.F.Field.act c.args.code.now c.args.width c.args.j c.args.lag c.args.i (c.args.i * c.args.width) c.coefficient-c.result c.args.self.now
    (λ e. both_ways _ (sym c.eq.ensures ∙ c.if-eq.false) (exact.1 (e ∙ sym c.zero.ensures.value)))
    c.coefficient-c.ensures.value refl c.requires.lag c.requires.symbol c.requires.terms)
