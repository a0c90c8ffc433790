use Rattle.std.proofs.Common.{◌≡◌, ◌+◌, subst, ◌∙◌, arith}
use Rattle.sc_check.specs.Span.{IsCleared}
use Rattle.sc_check.proofs.ClearSteps.{IsCleared-more}
use Rattle.sc_check.proofs.span.clear_columns.Goals as goal

pub loop-j-preserved : goal.loop-j-preserved
loop-j-preserved c =
    let inv = c.loop-j.invariant in
    let did = c.clear_column.ensures in
    let next : c.args.from + c.loop-j.j + 1 ≡ c.args.from + (c.loop-j.j + 1) = omega arith in (
      subst (IsCleared c.args.m.now c.clear_column.new.m c.args.from) next (IsCleared-more c.args.m.now c.loop-j.m c.clear_column.new.m c.args.from (c.args.from + c.loop-j.j) (omega arith) inv.0 did.cleared),
      omega (arith, did.fewer, inv.1),
      did.cleared.cols ∙ inv.2,
    )
