use Rattle.std.proofs.Common.{ℕ, ◌+◌, ◌*◌, subst}
use Rattle.sc_check.specs.Span.{IsCleared}
use Rattle.sc_check.proofs.WalkSteps.{IsSpan-next_kept}
use Rattle.sc_check.proofs.walk.open_kept.Goals as goal

pub returns-clause-span : goal.returns-clause-span
returns-clause-span c =
    IsSpan-next_kept c.args.walk.now.code.now (c.args.walk.now.classes.now.t + 1) c.args.flags.now c.args.done c.args.vectors.now c.clear_columns.new.m c.r-r.ensures.limits c.requires.room c.clear_columns.ensures.matrix c.requires.slot c.requires.clear c.requires.span
    (subst (λ (r : ℕ). IsCleared c.args.vectors.now c.clear_columns.new.m (c.args.done * r) (c.args.done * r + r)) c.r-r.ensures.number c.clear_columns.ensures.cleared)
