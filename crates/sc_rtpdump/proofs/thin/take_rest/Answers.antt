use Rattle.std.proofs.Common.{◌≡◌, ◌+◌, ◌⊎◌, inl, inr, true, false, length, slice_index_or, [], drop, take_all, refl, ap, sym, ◌∙◌, subst, arith, drop-cons}
use Rattle.std.proofs.lemmas.Result.{err_from_is_err_and}
use Rattle.sc_channel.specs.Flags.{set_count}
use Rattle.sc_rtpdump.specs.Thin.{StopsBehind, Reached}
use Rattle.sc_rtpdump.proofs.ThinSteps.{Reached-none, Reached-more, Reached-last, Reached-tail, stops_after, loses_after, count_more}
use Rattle.sc_rtpdump.proofs.thin.take_rest.Goals as goal
use Rattle.sc_rtpdump.proofs.thin.take_rest.Goals.{then-flag, else-flag}

pub loop-i-init : goal.loop-i-init
loop-i-init g c = record { reached = Reached-none c.args.flags.now _ _ c.requires.empty; count = refl; fewer = omega arith }

pub returns-in_err-take_one : goal.returns-in_err-take_one
returns-in_err-take_one g c =
    let failed = err_from_is_err_and c.from_residual.result c.from_residual.ensures.1 in
    let h = c.in_err-take_one.ensures in
    rw failed.1 (loses_after c.args.flags.now _ _ _ c.loop-i.i _ h.0 h.1 c.loop-i.invariant.reached h.2)

pub returns-in-Ok-false : goal.returns-in-Ok-false
returns-in-Ok-false g c =
    let h = rw (c.in-Ok-false.is, c.in-Ok-false.field-0-test) at c.in_ok-take_one.ensures in
    (c.loop-i-test.true, Reached-tail c.args.flags.now _ _ _ c.loop-i.i _ _ _ c.loop-i.invariant.reached h.0, h.1)

pub returns-in-Err : goal.returns-in-Err
returns-in-Err g c =
    let h = rw c.in-Err.is at c.in_ok-take_one.ensures in
    stops_after c.args.flags.now _ _ _ c.loop-i.i _ _ c.in-Err.fault (omega arith) c.loop-i.invariant.reached h

pub overflow_add-lost : goal.overflow_add-lost
overflow_add-lost g c = omega (arith, c.loop-i.invariant.fewer)

pub loop-i-preserved : goal.loop-i-preserved
loop-i-preserved g c =
    let h = rw (c.in-Ok-true.is, c.in-Ok-true.field-0-test) at c.in_ok-take_one.ensures in
    let flags = c.args.flags.now in
    let i = c.loop-i.i in
    let at : drop c.loop-i.i c.args.flags.now ≡ _ = drop-cons c.args.flags.now c.loop-i.i false c.loop-i-test.true in
    let lost : ((slice_index_or c.args.flags.now c.loop-i.i false ≡ true) × (c.if-flag.lost ≡ c.loop-i.lost + 1)) ⊎ ((slice_index_or c.args.flags.now c.loop-i.i false ≡ false) × (c.if-flag.lost ≡ c.loop-i.lost)) =
    elim c.if-flag.branch [
      | then-flag w ↦ inl (w.if-flag.true, w.lost-is)
      | else-flag w ↦ inr (w.if-flag.false, w.lost-is)
    ] in
    record {
      reached = Reached-more flags _ _ _ _ i _ _ _ h.0 at h.1 c.loop-i.invariant.reached h.2;
      count = count_more flags i c.loop-i-test.true c.loop-i.lost c.if-flag.lost c.loop-i.invariant.count lost;
      fewer = elim lost [ inl more ↦ omega (arith, more.1, c.loop-i.invariant.fewer) | inr same ↦ omega (arith, same.1, c.loop-i.invariant.fewer) ];
    }

pub returns-in_err-take_one-2 : goal.returns-in_err-take_one-2
returns-in_err-take_one-2 g c =
    let failed = err_from_is_err_and c.from_residual-in_err-take_one-2.result c.from_residual-in_err-take_one-2.ensures.1 in
    let h = c.in_err-take_one-2.ensures in
    rw failed.1 (loses_after c.args.flags.now _ _ _ c.loop-i.i _ h.0 h.1 c.loop-i.invariant.reached h.2)

pub returns-in-Ok-true-2 : goal.returns-in-Ok-true-2
returns-in-Ok-true-2 g c =
    let h = rw (c.in-Ok-true-2.is, c.in-Ok-true-2.field-0-test) at c.in_ok-take_one-2.ensures in
    let n : c.loop-i.i ≡ length c.args.flags.now = omega arith in
    subst (λ m. Reached c.args.flags.now (g.P.Port.told c.args.port.now) (g.P.Port.told c.take_one-2.new.port) (m + 1) [] c.take_one-2.new.pending) n
    (Reached-last c.args.flags.now _ _ _ c.loop-i.i _ _ h.0 (sym n) h.1 c.loop-i.invariant.reached h.2)

pub returns-in-Ok-false-2 : goal.returns-in-Ok-false-2
returns-in-Ok-false-2 g c =
    let h = rw (c.in-Ok-false-2.is, c.in-Ok-false-2.field-0-test) at c.in_ok-take_one-2.ensures in
    let flags = c.args.flags.now in
    let n : c.loop-i.i ≡ length c.args.flags.now = omega arith in
    let lost : c.loop-i.lost ≡ set_count c.args.flags.now = c.loop-i.invariant.count ∙ ap set_count (take_all c.loop-i.i flags (omega arith)) in (
      subst (λ m. Reached flags (g.P.Port.told c.args.port.now) (g.P.Port.told c.take_one-2.new.port) m [] c.take_one-2.new.pending) n (Reached-tail flags _ _ _ c.loop-i.i _ _ _ c.loop-i.invariant.reached h.0),
      h.1,
      ap (λ k. record { records = length flags; lost = k }) lost,
    )

pub returns-in-Err-2 : goal.returns-in-Err-2
returns-in-Err-2 g c =
    let n : c.loop-i.i ≡ length c.args.flags.now = omega arith in
    let h = subst (λ m. StopsBehind m (g.P.Port.told c.loop-i.port) (g.P.Port.told c.take_one-2.new.port) c.loop-i.pending c.take_one-2.new.pending c.in-Err-2.fault) (sym n) (rw c.in-Err-2.is at c.in_ok-take_one-2.ensures) in
    stops_after c.args.flags.now _ _ _ c.loop-i.i _ _ c.in-Err-2.fault (omega arith) c.loop-i.invariant.reached h
