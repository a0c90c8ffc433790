use Rattle.std.proofs.Common.{◌+◌, refl, sym, ap, ◌∙◌}
use Rattle.sc_slots.proofs.FlushSteps.{last_given, last_failed}
use Rattle.sc_slots.proofs.protect.put_last.Goals as goal

pub returns-in_default-flush : goal.returns-in_default-flush
returns-in_default-flush g c = λ p of deadline. (refl, λ records k. last_failed _ _ _ _ _ _ _ (c.in-Ok.ensures p of deadline records k) c.in_default-flush.ensures)

pub returns : goal.returns
returns g c = λ p of deadline. (
  ap (λ n. record { slots = c.args.state.now.taken.rtp + n; rtcp = c.args.state.now.taken.rtcp; cut = c.args.state.now.taken.cut; strange = c.args.state.now.taken.strange }) (c.t.ensures.number ∙ sym deadline),
  λ records k. last_given _ _ _ _ _ _ (c.in-Ok.ensures p of deadline records k) c.in-Ok-flush.ensures.1,
)
