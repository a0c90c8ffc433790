use Rattle.std.proofs.Common.{refl}
use Rattle.sc_rtp.specs.Head.{head_of}
use Rattle.sc_slots.proofs.protect.Protector.start.Goals as goal

pub returns-clause-none : goal.returns-clause-none
unfolding head_of
returns-clause-none c = refl
