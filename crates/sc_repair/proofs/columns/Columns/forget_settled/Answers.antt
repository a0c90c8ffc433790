use Rattle.std.proofs.Common.{◌≡◌, ◌↔◌, ℕ, List, Bool, true, false, length, replicate, sym, ap, ◌∙◌, subst}
use Rattle.std.proofs.lemmas.List.{length-replicate, get_or-replicate}
use Rattle.sc_field.specs.Gf256.{gf256_product}
use Rattle.sc_matrix.proofs.LayoutLaws.{items_written}
use Rattle.sc_echelon.specs.Knowledge.{Knowledge, IsSolution, Forgets}
use Rattle.sc_repair.specs.Columns.{IsRoomyColumns, all_known}
use Rattle.sc_repair.proofs.SettleSteps.{settled_is, quiet_after, columns_after, same_after}
use Rattle.sc_repair.proofs.columns.Columns.forget_settled.Goals as goal

pub invariant_of-self : goal.invariant_of-self
invariant_of-self c =
    let e = c.self.inside in
    let h = c.self.invariant.columns in
    let whole : List Bool = e.whole.items in
    let free : List Bool = e.free.items in
    let new = c.forget_front.new.self in
    let settled = settled_is whole free _ _ c.as_slice.ensures.value c.as_slice-2.ensures.value (c.are_settled.ensures c.if-not-are_settled.false) in
    let forgets : Forgets gf256_product e.known.cols e.known new = subst (λ (k : ℕ). Forgets gf256_product k e.known new) c.cols-cols.ensures c.forget_front.ensures.solutions in
    let flags : c.set_all.new.flags ≡ replicate (length free) true = c.set_all.ensures ∙ ap (λ (x : List Bool). replicate (length x) true) c.as_mut_slice.ensures.value in
    let free_is = items_written e.free c.set_all.new.flags (ap length flags ∙ length-replicate (length free) true) ∙ flags in
    subst (λ (x : List Bool). IsRoomyColumns new false whole x e.bytes e.sum.items) (sym free_is)
    (record {
      columns = columns_after e.known new whole free e.bytes h c.known.ensures.solvable settled c.forget_front.ensures.cols c.forget_front.ensures.width forgets (replicate (length free) true) (length-replicate (length free) true) (λ i lt. get_or-replicate (length free) i true false lt);
      quiet = λ _. quiet_after e.known new whole free e.bytes h c.known.ensures.solvable settled c.forget_front.ensures.cols c.forget_front.ensures.width forgets;
      sum_count = c.self.invariant.sum_count ∙ sym c.forget_front.ensures.width;
    })

pub returns-clause-same : goal.returns-clause-same
returns-clause-same c =
    let e = c.self.inside in
    let h = c.self.invariant.columns in
    let whole : List Bool = e.whole.items in
    let free : List Bool = e.free.items in
    let new = c.forget_front.new.self in
    let settled = settled_is whole free _ _ c.as_slice.ensures.value c.as_slice-2.ensures.value (c.are_settled.ensures c.if-not-are_settled.false) in
    let forgets : Forgets gf256_product e.known.cols e.known new = subst (λ (k : ℕ). Forgets gf256_product k e.known new) c.cols-cols.ensures c.forget_front.ensures.solutions in
    subst (λ (k : Knowledge ℕ). (vs : List (List ℕ)) → IsSolution gf256_product (all_known new whole e.bytes) vs ↔ IsSolution gf256_product k vs) c.self.view_is
    (same_after e.known new whole free e.bytes h c.known.ensures.solvable settled c.forget_front.ensures.cols c.forget_front.ensures.width forgets)
