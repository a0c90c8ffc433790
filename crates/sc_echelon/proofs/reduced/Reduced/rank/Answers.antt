use Rattle.std.proofs.Common.{ℕ, length, sym, subst, ◌∙◌, ap}
use Rattle.sc_echelon.specs.Table.{rows_of}
use Rattle.sc_echelon.specs.Storage.{table_of}
use Rattle.sc_echelon.specs.Echelon.{coeffs_of, on_below}
use Rattle.sc_echelon.specs.Kernel.{IsKernelVector, IsRank}
use Rattle.sc_echelon.proofs.ReducedLaws.{is_rank}
use Rattle.sc_echelon.proofs.StoredReduced.{kernel_kept, rows_on}
use Rattle.sc_echelon.proofs.reduced.Reduced.rank.Goals as goal

pub returns : goal.returns
returns g c =
    let used = c.self.inside.used.items in
    let rows = c.self.inside.rows.items in
    let s = coeffs_of (table_of used rows) in
    let K = IsKernelVector g.F.Field.IsElement g.F.Field.zero g.F.Field.add g.F.Field.mul in
    let value = c.count_on.ensures ∙ ap (λ bs. on_below bs (length bs)) c.as_slice.ensures.value ∙ rows_on used rows c.self.invariant.count in
    subst (λ m. IsRank g.F.Field.zero (K m.cols m.rows) m.cols c.count_on.result) c.self.view_is
    (subst (λ (k : ℕ). IsRank g.F.Field.zero (K (length used) (rows_of s)) (length used) k) (sym value)
    (is_rank g.met.F.Field.field (length used) (rows_of s) s c.self.invariant.form (kernel_kept g.F.Field.zero g.F.Field.add g.F.Field.mul g.F.Field.IsElement (length used) s)))
