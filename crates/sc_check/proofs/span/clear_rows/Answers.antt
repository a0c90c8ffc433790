use Rattle.std.proofs.Common.{◌≡◌, ℕ, List, get_or, refl, ap, ◌∙◌, subst, arith, inl, inr}
use Rattle.std.proofs.lemmas.Bool.{cases_lt}
use Rattle.sc_matrix.specs.Matrix.{entry}
use Rattle.sc_check.proofs.ClearSteps.{one_space-self, one_space-trans}
use Rattle.sc_check.proofs.span.clear_rows.Goals as goal

pub loop-i-init : goal.loop-i-init
loop-i-init c = (one_space-self c.args.m.now c.known.ensures.shape, refl, refl, λ k lt. absurd (omega arith), c.known.ensures.shape, refl)

pub loop-i-preserved : goal.loop-i-preserved
loop-i-preserved c =
    let inv = c.loop-i.invariant in
    let did = c.clear_row.ensures in (
      one_space-trans c.clear_row.new.m c.loop-i.m c.args.m.now did.matrix c.known.ensures.shape did.one_space inv.0,
      did.count ∙ inv.1,
      did.others c.args.last (λ e. absurd (omega (arith, c.loop-i-test.true, e))) ∙ inv.2,
      λ k lt.
          elim (cases_lt k c.loop-i.i) [
            | inl before ↦ ap (λ (r : List ℕ). get_or r c.args.c 0) (did.others k (λ e. absurd (omega (arith, before, e)))) ∙ inv.3 k before
            | inr here ↦ let same : c.loop-i.i ≡ k = omega (arith, here, lt) in subst (λ (j : ℕ). entry 0 c.clear_row.new.m j c.args.c ≡ 0) same did.zero
          ],
      did.matrix,
      did.one_space.first_in.cols ∙ inv.5,
    )
