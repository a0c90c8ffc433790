use Rattle.std.proofs.Common.{◌≡◌, ℕ, ◌*◌, ◌+◌, ◌-◌, get_or, leb, cond, ◌∙◌, subst, arith, inl, inr}
use Rattle.std.proofs.lemmas.Bool.{cases_lt}
use Rattle.sc_matrix.proofs.LayoutLaws.{row_within}
use Rattle.sc_code.specs.Code.{coefficient}
use Rattle.sc_repair.proofs.EquationSteps.{row_of_entries}
use Rattle.sc_repair.proofs.equations.write_parity_row.Goals as goal

pub loop-p-preserved : goal.loop-p-preserved
loop-p-preserved c =
    let code = c.args.code.now in
    let k = code.k in
    let p = c.loop-p.p in
    let place = c.args.place in (
      c.write_place.ensures.row ∙ c.loop-p.invariant.0,
      λ q s lt hs. elim (cases_lt q p) [
        | inl low ↦
            let room = row_within p k q low in
            c.write_place.ensures.before (q * k + s) (omega arith) ∙ c.loop-p.invariant.1 q s low hs
        | inr high ↦
            let same : p ≡ q = omega arith in
            subst (λ (x : ℕ). get_or c.write_place.new.row (x * k + s) 0 ≡ cond (leb x place) (coefficient 0 code (place - x) s c.args.j) 0) same (c.write_place.ensures.here s hs)
      ],
    )

pub returns : goal.returns
returns c =
    let code = c.args.code.now in
    let place = c.args.place in
    row_of_entries (λ p s. cond (leb p place) (coefficient 0 code (place - p) s c.args.j) 0) 0 code.k c.args.places c.loop-p.row (c.loop-p.invariant.0 ∙ c.requires.row)
    (λ p s hp hs. c.loop-p.invariant.1 p s (omega (arith, c.loop-p-test.false, c.loop-p.auto.p-end)) hs)
