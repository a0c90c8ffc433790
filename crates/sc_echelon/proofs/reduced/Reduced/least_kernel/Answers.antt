use Rattle.std.proofs.Common.{◌≡◌, ℕ, ◌<◌, List, false, true, min, length, get_or, subst, ◌∙◌, ap, arith}
use Rattle.sc_echelon.specs.Echelon.{IsLastOff, IsLeadingEntry}
use Rattle.sc_echelon.specs.Kernel.{IsKernelVector, IsNonzeroBelow, IsLeastBelow}
use Rattle.sc_echelon.proofs.StoredReduced.{least_none_stored, least_stored}
use Rattle.sc_echelon.proofs.reduced.Reduced.least_kernel.Goals as goal

pub returns-in-None : goal.returns-in-None
returns-in-None g c =
    let used = c.self.inside.used.items in
    let rows = c.self.inside.rows.items in
    let end : c.min-end.result ≡ min c.args.below (length used) = c.min-end.ensures ∙ ap (λ bs. min c.args.below (length bs)) c.as_slice-used.ensures.value in
    subst (λ m. (v : List _) → IsKernelVector g.F.Field.IsElement g.F.Field.zero g.F.Field.add g.F.Field.mul m.cols m.rows v → IsNonzeroBelow g.F.Field.zero c.args.below v → ⊥) c.self.view_is
    (least_none_stored g.met.F.Field.field g.met.F.Field.numbered used rows c.self.invariant c.args.below c.min-end.result end
    (subst (λ bs. (i : ℕ) → i < c.min-end.result → get_or bs i false ≡ true) c.as_slice-used.ensures.value c.in-None.ensures))

pub returns-in_ok-vector-in-Some : goal.returns-in_ok-vector-in-Some
returns-in_ok-vector-in-Some g c =
    let used = c.self.inside.used.items in
    let rows = c.self.inside.rows.items in
    let end : c.min-end.result ≡ min c.args.below (length used) = c.min-end.ensures ∙ ap (λ bs. min c.args.below (length bs)) c.as_slice-used.ensures.value in
    let col = c.in-Some.col in
    let u = c.in_ok-vector-in-Some.vector.items in
    let flags = c.as_slice-used.ensures.value in
    let size = ap length flags in
    let entry = λ (bs : List _) (rs : List _) (i : ℕ). IsLeadingEntry g.F.Field.zero g.F.Field.one g.F.Field.sub bs rs col i (get_or u i g.F.Field.zero) in
    subst (λ m. IsLeastBelow g.F.Field.zero g.F.Field.number (IsKernelVector g.F.Field.IsElement g.F.Field.zero g.F.Field.add g.F.Field.mul m.cols m.rows) c.args.below u) c.self.view_is
    (least_stored g.met.F.Field.field g.met.F.Field.numbered used rows c.self.invariant c.args.below c.min-end.result end col
    (subst (λ bs. IsLastOff bs c.min-end.result col) flags c.in-Some.ensures) u (c.in_ok-vector-in-Some.ensures.count ∙ size)
    (λ i l. subst (λ rs. entry used rs i) c.as_slice.ensures.value (subst (λ bs. entry bs c.as_slice.result.now i) flags (c.in_ok-vector-in-Some.ensures.entries i (omega arith)))))
