use Rattle.std.proofs.Common.{refl}
use Rattle.sc_slots.specs.Slot.{slot_head_of}
use Rattle.sc_slots.proofs.HeadLaws.{same_head}
use Rattle.sc_slots.proofs.head.SlotHead.read.Goals as goal

pub returns : goal.returns
unfolding slot_head_of
returns c =
    same_head _ _ _ _ _ _ _ (slot_head_of c.args.packet.now)
    c.from_be_bytes.ensures c.from_be_bytes-2.ensures refl refl refl c.from_be_bytes-3.ensures c.from_be_bytes-4.ensures
