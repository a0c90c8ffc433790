-- What the values of this crate's types mean, in the words of frames and slots.
use Rattle.std.specs.Prelude.{Result, Ok, Err}
use Rattle.sc_slots.specs.declared.unframing.BadBlock.{BadBlock}
use Rattle.sc_slots.specs.declared.unframing.Frame.{Frame}
use Rattle.sc_slots.specs.declared.unframing.Frame.TheVariants.{Blank, Packet}
use Rattle.sc_slots.specs.declared.head.SlotHead.{SlotHead as HeadFields}
use Rattle.sc_slots.specs.declared.slot.Slot.{Slot as Fields}
use Rattle.sc_slots.specs.declared.slot.SlotReading.{SlotReading}
use Rattle.sc_slots.specs.declared.slot.SlotReading.TheVariants.{Slot as Read, Stranger, WrongCode, BadShape}
use Rattle.sc_slots.specs.Frame.{Unframed, blank, framed, bad}
use Rattle.sc_slots.specs.Slot.{Slot, SlotHead, Reading, stranger, wrong_code, bad_shape, slot}

-- what unframing a block answers
abbrev pub unframed : Result Frame BadBlock → Unframed
unframed (Ok Blank) = blank
unframed (Ok (Packet offset packet)) = framed offset packet.now
unframed (Err e) = bad

-- a slot
abbrev pub slot_in : Fields → Slot
slot_in s = record { number = s.number; end = s.end; m = s.m; timestamp = s.timestamp; block = s.block.now; parity = s.parity.now }

-- the head of a protected packet
abbrev pub head_in : HeadFields → SlotHead
head_in h = record { sequence = h.sequence; timestamp = h.timestamp; k = h.k; r = h.r; end = h.end; m = h.m; number = h.number }

-- what reading a record answers
abbrev pub reading : SlotReading → Reading
reading (Read s) = slot (slot_in s)
reading Stranger = stranger
reading WrongCode = wrong_code
reading BadShape = bad_shape
