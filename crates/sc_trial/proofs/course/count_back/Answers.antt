use Rattle.std.proofs.Common.{◌≡◌, ◌+◌, ◌*◌, ◌-◌, ◌≤◌, drop, take, length, refl, sym, ap, ◌∙◌, arith, take_all, length-drop, zero-add}
use Rattle.sc_trial.proofs.BackSteps.{walk_kept}
use Rattle.sc_trial.proofs.course.count_back.Goals as goal
use Rattle.sc_trial.proofs.course.count_back.Goals.{then-starts_with, else-starts_with}

pub loop-init : goal.loop-init
loop-init c =
    let none : c.args.count - 0 ≡ c.args.count = omega arith in
    let left : take (length c.args.capture.now - 44) (drop 44 c.args.capture.now) ≡ drop 44 c.args.capture.now = take_all _ _ (omega (arith, length-drop 44 c.args.capture.now)) in
    let rest : take (length c.args.back.now - 44) (drop 44 c.args.back.now) ≡ drop 44 c.args.back.now = take_all _ _ (omega (arith, length-drop 44 c.args.back.now)) in
    (rw (none, left, rest) (zero-add _), omega arith, rw (none, left) (omega (arith, c.requires.room, length-drop 44 c.args.capture.now)))

pub loop-preserved : goal.loop-preserved
loop-preserved c = elim c.if-starts_with.branch [
  | then-starts_with w ↦
      let rest : c.if-starts_with.rest.now ≡ drop c.args.len c.loop.rest.now = ap (λ b. b.now) w.rest-is ∙ take_all _ _ (omega (arith, length-drop c.args.len c.loop.rest.now)) in
      let keeps = walk_kept c.args.count c.loop.counter c.args.len c.loop.equal c.if-starts_with.equal _ c.loop.left.now c.loop.rest.now c.split_at.result.0.now c.split_at.result.1.now c.if-starts_with.rest.now _
      c.loop-test.true c.loop.invariant.2 c.split_at.ensures.front c.split_at.ensures.back (sym w.if-starts_with.true ∙ c.starts_with.ensures.value) rest w.equal-is c.loop.invariant.0 in
      (keeps.0, omega (arith, w.equal-is, c.loop.invariant.1), keeps.1)
  | else-starts_with w ↦
      let rest : c.if-starts_with.rest.now ≡ c.loop.rest.now = ap (λ b. b.now) w.rest-is in
      let keeps = walk_kept c.args.count c.loop.counter c.args.len c.loop.equal c.if-starts_with.equal _ c.loop.left.now c.loop.rest.now c.split_at.result.0.now c.split_at.result.1.now c.if-starts_with.rest.now _
      c.loop-test.true c.loop.invariant.2 c.split_at.ensures.front c.split_at.ensures.back (sym w.if-starts_with.false ∙ c.starts_with.ensures.value) rest w.equal-is c.loop.invariant.0 in
      (keeps.0, omega (arith, w.equal-is, c.loop.invariant.1), keeps.1)
]
