use Rattle.std.proofs.Common.{◌≡◌, ℕ, ◌+◌, ◌<◌, length, get_or, not, true, false, refl, ap, ◌∙◌, sym, subst, arith, inl, inr}
use Rattle.std.proofs.lemmas.Bool.{cases_eq, ne_eqb}
use Rattle.std.proofs.lemmas.List.{get_or_default}
use Rattle.sc_repair.specs.Sum.{AreTerms}
use Rattle.sc_repair.proofs.SumSteps.{terms_none, terms_more, terms_skip}
use Rattle.sc_repair.proofs.sum.terms_of.Goals as goal
use Rattle.sc_repair.proofs.sum.terms_of.Goals.{then-ne+in_ok-push, else-ne}

pub loop-c-init : goal.loop-c-init
loop-c-init c = subst (λ ts. AreTerms (λ t. t.multiplier.coefficient) (λ t. t.at) c.args.width c.args.row.now 0 ts) (sym c.new-terms.ensures.items) (terms_none (λ t. t.multiplier.coefficient) (λ t. t.at) c.args.width c.args.row.now)

pub loop-c-preserved : goal.loop-c-preserved
loop-c-preserved c =
    let row = c.args.row.now in
    let n = c.loop-c.c in
    let x = c.index-row-c.result in
    let lt : n < length row = omega (arith, c.loop-c-test.true) in
    let here : x ≡ get_or row n 0 = c.index-row-c.is ∙ get_or_default row n x 0 lt in
    elim c.if-ne.branch [
      | then-ne+in_ok-push w ↦
          subst (λ ts. AreTerms (λ t. t.multiplier.coefficient) (λ t. t.at) c.args.width row (n + 1) ts.items) (sym w.terms-is)
          (subst (λ ts. AreTerms (λ t. t.multiplier.coefficient) (λ t. t.at) c.args.width row (n + 1) ts) (sym w.in_ok-push.ensures.items)
          (terms_more (λ t. t.multiplier.coefficient) (λ t. t.at) c.args.width row n c.loop-c.terms.items _ c.loop-c.invariant lt (subst (λ (y : ℕ). y < 256) here c.known.ensures) (w.new-multiplier.ensures ∙ here) refl))
      | else-ne w ↦
          let zero : x ≡ 0 = elim (cases_eq x c.zero.result) [
            | inl it ↦ it ∙ c.zero.ensures.value
            | inr other ↦ absurd (let no' : false ≡ true = sym w.if-ne.false ∙ c.ne.ensures ∙ ap not (ne_eqb x c.zero.result other) in cc)
          ] in
          subst (λ ts. AreTerms (λ t. t.multiplier.coefficient) (λ t. t.at) c.args.width row (n + 1) ts.items) (sym w.terms-is)
          (terms_skip (λ t. t.multiplier.coefficient) (λ t. t.at) c.args.width row n c.loop-c.terms.items c.loop-c.invariant lt (sym here ∙ zero))
    ]
