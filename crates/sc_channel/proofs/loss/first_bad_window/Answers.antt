use Rattle.std.proofs.Common.{◌+◌, Some, None, refl, sym, arith}
use Rattle.std.proofs.lemmas.Bool.{true≢false}
use Rattle.sc_channel.specs.Loss.{IsFine}
use Rattle.sc_channel.specs.Sweep.{recent}
use Rattle.sc_channel.proofs.FineLaws.{IsAdmissible-from_windows, IsAdmissible-window, IsAdmissible-no_bad}
use Rattle.sc_channel.proofs.SweepSteps.{RecentFine-more, recent_close, recent_few, recent_kept, bad_found, all_fine}
use Rattle.sc_channel.proofs.WindowLaws.{bad_window-is}
use Rattle.sc_channel.proofs.loss.first_bad_window.Goals as goal
use Rattle.sc_channel.proofs.loss.first_bad_window.Goals.{else-flags-i-via-then-flags-i+then-n-set+else-start-early_end, else-flags-i-via-then-flags-i+else-n-set, else-flags-i-via-else-flags-i}

pub returns-then-start-early_end-clause-answer : goal.returns-then-start-early_end-clause-answer
returns-then-start-early_end-clause-answer c =
    let start_is = c.saturating_sub-start.ensures in
    rw start_is
    (bad_found c.args.channel.now c.args.flags.now c.w-w.result c.b-b.result c.n-n.result c.loop-i.i c.recent_count-set.result c.early_end_at-early_end.result
    c.w-w.ensures.number c.b-b.ensures.number c.n-n.ensures.number
    (omega (arith, c.w-w.ensures.limits.ordered.deadline_in_window))
    (omega arith)
    c.loop-i.invariant.2
    c.recent_count-set.ensures
    c.early_end_at-early_end.ensures
    c.if-flags-i.true
    c.if-n-set.true
    (omega arith))

pub returns-then-start-early_end-clause-admissible :
    goal.returns-then-start-early_end-clause-admissible
returns-then-start-early_end-clause-admissible c = (
  λ e. absurd (true≢false e),
  λ admissible. absurd (IsAdmissible-no_bad _ _ _ admissible (returns-then-start-early_end-clause-answer c)),
)

pub returns-then-start-early_end-clause-by_windows :
    goal.returns-then-start-early_end-clause-by_windows
returns-then-start-early_end-clause-by_windows c = (
  λ e. absurd (true≢false e),
  λ fine. absurd (IsAdmissible-no_bad _ _ _ (IsAdmissible-from_windows _ _ fine) (returns-then-start-early_end-clause-answer c)),
)

pub loop-i-preserved : goal.loop-i-preserved
loop-i-preserved c =
    let next : IsFine c.b-b.result c.n-n.result (recent c.w-w.result (c.loop-i.i + 1) c.args.flags.now) =
    elim c.else-flags-i.branch [
      | else-flags-i-via-then-flags-i+then-n-set+else-start-early_end w ↦ recent_close _ _ _ _ _ _ c.early_end_at-early_end.ensures (omega (arith, c.saturating_sub-start.ensures, w.if-start-early_end.false))
      | else-flags-i-via-then-flags-i+else-n-set w ↦ recent_few _ _ _ _ _ _ c.recent_count-set.ensures w.if-n-set.false
      | else-flags-i-via-else-flags-i w ↦ recent_kept c.w-w.result c.b-b.result c.n-n.result c.args.flags.now c.loop-i.i w.if-flags-i.false (c.loop-i.invariant.2 c.loop-i.i (omega arith))
    ] in
    (c.recent_count-set.ensures, c.early_end_at-early_end.ensures, RecentFine-more _ _ _ _ _ c.loop-i.invariant.2 next)

pub returns-clause-answer : goal.returns-clause-answer
returns-clause-answer c =
    all_fine c.args.channel.now c.args.flags.now c.w-w.result c.b-b.result c.n-n.result c.loop-i.i
    c.w-w.ensures.number c.b-b.ensures.number c.n-n.ensures.number (omega arith) c.loop-i.invariant.2

pub returns-clause-admissible : goal.returns-clause-admissible
returns-clause-admissible c = (λ _. returns-clause-answer c, λ _. refl)

pub returns-clause-by_windows : goal.returns-clause-by_windows
returns-clause-by_windows c =
    (λ _ i within. IsAdmissible-window c.args.channel.now c.args.flags.now i (returns-clause-answer c), λ _. refl)

pub returns-then-start-early_end-clause-value : goal.returns-then-start-early_end-clause-value
returns-then-start-early_end-clause-value c = sym (bad_window-is c.args.channel.now c.args.flags.now (Some _) (returns-then-start-early_end-clause-answer c))

pub returns-clause-value : goal.returns-clause-value
returns-clause-value c = sym (bad_window-is c.args.channel.now c.args.flags.now None (returns-clause-answer c))
