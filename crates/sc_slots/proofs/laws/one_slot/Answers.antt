use Rattle.sc_slots.proofs.SlotLaws.{records_once, slot-there, well_shaped-there, slot-read}
use Rattle.sc_slots.proofs.laws.one_slot.Goals as goal

pub returns : goal.returns
returns c = record { once = records_once; back = slot-there; well_shaped = well_shaped-there; read = slot-read }
