use Rattle.std.proofs.Common.{◌↔◌, ◌*◌, length, sym, ap, ◌∙◌, subst}
use Rattle.sc_channel.specs.Flags.{set_count}
use Rattle.sc_matrix.specs.Vector.{IsVector}
use Rattle.sc_matrix.specs.Matrix.{row_count}
use Rattle.sc_echelon.specs.Kernel.{IsKernelVector}
use Rattle.sc_window.specs.Window.{spelled, IsZeroWhereKept}
use Rattle.sc_window.proofs.WindowSteps.{window_kernel}
use Rattle.sc_window.proofs.RowSteps.{window_room, length-window_of}
use Rattle.sc_window.proofs.window.window_matrix.Goals as goal

pub with_capacity-requires : goal.with_capacity-requires
with_capacity-requires g c =
    let code = c.args.code.now in
    let lost = c.count_lost-lost.result in
    rw (c.k.ensures.number, c.r.ensures.number)
    (window_room code.k code.r (length code.lags) (length c.args.class.now) lost c.r.ensures.limits.in_range c.count_lost-lost.ensures.within c.requires)

pub returns-clause-rows : goal.returns-clause-rows
returns-clause-rows g c = ap row_count c.in_ok-push_rows.ensures ∙ length-window_of g.F.Field.zero c.args.code.now c.args.class.now

pub returns-clause-kernel : goal.returns-clause-kernel
returns-clause-kernel g c = λ v.
    let F = g.F.Field in
    let code = c.args.code.now in
    let class = c.args.class.now in
    subst (λ m. IsKernelVector F.IsElement F.zero F.add F.mul m.cols m.rows v
    ↔ (IsVector F.IsElement (code.k * set_count class) v × IsZeroWhereKept F.zero F.add F.mul code class (spelled F.zero code.k class v)))
    (sym c.in_ok-push_rows.ensures) (window_kernel g.met.F.Field.field code class v c.k.ensures.limits)
