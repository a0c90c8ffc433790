use Rattle.sc_slots.proofs.FrameLaws.{blocks_once, frame-there}
use Rattle.sc_slots.proofs.laws.one_frame.Goals as goal

pub returns : goal.returns
returns c = record { once = blocks_once; back = frame-there }
