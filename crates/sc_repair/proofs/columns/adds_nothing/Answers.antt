use Rattle.std.proofs.Common.{◌≡◌, true, false, eqb, inl, inr, get_or, sym, ap, ◌∙◌}
use Rattle.std.proofs.lemmas.Bool.{cases_eq, ne_eqb}
use Rattle.sc_field.proofs.ScaledSum.{scaled_sum-none}
use Rattle.sc_field.specs.Gf256.{gf256_product}
use Rattle.sc_field.specs.Laws.Gf256Laws.{gf256_action}
use Rattle.sc_repair.proofs.columns.adds_nothing.Goals as goal

pub returns : goal.returns
returns c yes' =
    let x = c.args.c in
    let same : eqb x c.zero.result ≡ true = sym c.eq.ensures ∙ yes' in
    let zero : x ≡ 0 = elim (cases_eq x c.zero.result) [
      | inl it ↦ it ∙ c.zero.ensures.value
      | inr other ↦ absurd (let no' : false ≡ true = sym (ne_eqb x c.zero.result other) ∙ same in cc)
    ] in
    sym (scaled_sum-none (gf256_product x) c.args.sum.now c.args.src.now
    (λ k. ap (λ y. gf256_product y (get_or c.args.src.now k 0)) zero ∙ gf256_action.by_zero _ (c.type_inv.src k).fits))
