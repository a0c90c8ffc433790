use Rattle.std.proofs.Common.{◌++◌, ◌-◌, take, refl, inl, inr, ap, ◌∙◌, arith}
use Rattle.sc_rtpdump.proofs.ThinSteps.{body_whole, body_cut, body_failed}
use Rattle.sc_rtpdump.proofs.thin.take_body.Goals as goal

pub returns-then-lost : goal.returns-then-lost
returns-then-lost g c =
    let back = c.truncate.ensures ∙ ap (λ k. take k c.take_in.new.self) c.len-kept.ensures.value in
    let pushed = c.push.ensures ∙ ap (λ l. c.args.pending.now ++ l) c.to_bytes.ensures in
    body_whole c.args.index c.args.lost c.args.head _ _ c.args.pending.now c.push.new.self c.take_in.new.self _ (c.from.result - 8)
    c.requires.fits c.requires.length (omega (arith, c.from.ensures)) pushed (rw c.in-Ok-true.field-0-test at c.in-Ok-true.ensures) (inl (c.if-lost.true, back))

pub returns-else-lost : goal.returns-else-lost
returns-else-lost g c =
    let pushed = c.push.ensures ∙ ap (λ l. c.args.pending.now ++ l) c.to_bytes.ensures in
    body_whole c.args.index c.args.lost c.args.head _ _ c.args.pending.now c.push.new.self c.take_in.new.self _ (c.from.result - 8)
    c.requires.fits c.requires.length (omega (arith, c.from.ensures)) pushed (rw c.in-Ok-true.field-0-test at c.in-Ok-true.ensures) (inr (c.if-lost.false, refl))

pub returns-in-Ok-false : goal.returns-in-Ok-false
returns-in-Ok-false g c =
    let back = c.truncate-in-Ok-false.ensures ∙ ap (λ k. take k c.take_in.new.self) c.len-kept.ensures.value in
    let pushed = c.push.ensures ∙ ap (λ l. c.args.pending.now ++ l) c.to_bytes.ensures in
    body_cut c.args.index c.args.lost c.args.head _ _ c.args.pending.now c.push.new.self c.take_in.new.self _ (c.from.result - 8)
    c.requires.fits c.requires.length (omega (arith, c.from.ensures)) pushed (rw c.in-Ok-false.field-0-test at c.in-Ok-false.ensures) back

pub returns-in-Err : goal.returns-in-Err
returns-in-Err g c =
    let back = c.truncate-in-Err.ensures ∙ ap (λ k. take k c.take_in.new.self) c.len-kept.ensures.value in
    let pushed = c.push.ensures ∙ ap (λ l. c.args.pending.now ++ l) c.to_bytes.ensures in
    body_failed c.args.index c.args.lost c.args.head _ _ c.args.pending.now c.push.new.self c.take_in.new.self _ (c.from.result - 8)
    c.requires.fits c.requires.length (omega (arith, c.from.ensures)) pushed c.in-Err.ensures.0 c.in-Err.ensures.1 back
