-- What is said of frames and protected packets: they have one reading, which undoes writing.
use Rattle.std.specs.Prelude.{◌≡◌, ℕ, ◌+◌, ◌≤◌, ◌<◌, ◌^◌, List, ◌++◌, length}
use Rattle.sc_rtpdump.specs.Record.{Record, IsRecord}
use Rattle.sc_slots.specs.Frame.{Unframed, framed, Unframes, frame_bytes}
use Rattle.sc_slots.specs.Slot.{Slot, Reading, slot, head_of_slot, slot_record, FitsSlot, FitsPacket, HasBadShape, IsSlot, IsSlotRecord, ReadsAs}

-- a block has one reading at most
abbrev pub BlocksAreReadOnce : Type 0
BlocksAreReadOnce = (block : List ℕ) (a b : Unframed) → Unframes block a → Unframes block b → a ≡ b

-- a frame in a block with room for it is read as its offset and its packet
abbrev pub FramesAreReadBack : Type 0
FramesAreReadBack = (offset : ℕ) (packet : List ℕ) (len : ℕ)
    → offset < 2 ^ 32 → 1 ≤ length packet → length packet < 2 ^ 16 → 6 + length packet ≤ len
    → Unframes (frame_bytes offset packet len) (framed offset packet)

-- a record has one reading at most
abbrev pub RecordsAreReadOnce : Type 0
RecordsAreReadOnce = (k r deadline : ℕ) (e : Record) (a b : Reading) → ReadsAs k r deadline e a → ReadsAs k r deadline e b → a ≡ b

-- a slot that is written is read as itself where its packet isn't badly shaped
abbrev pub SlotsAreReadBack : Type 0
SlotsAreReadBack = (k r deadline offset : ℕ) (s : Slot) → k < 256 → r < 256 → FitsSlot s → FitsPacket k r s
    → (HasBadShape k r deadline (head_of_slot k r s) (s.block ++ s.parity) → ⊥)
    → ReadsAs k r deadline (slot_record k r offset s) (slot s)

-- so it is where it is well shaped
abbrev pub WellShapedAreReadBack : Type 0
WellShapedAreReadBack = (k r deadline offset : ℕ) (s : Slot) → k < 256 → r < 256 → IsSlot k r deadline s
    → ReadsAs k r deadline (slot_record k r offset s) (slot s)

-- what is read as a slot is the record of that slot, well shaped
abbrev pub ReadAreWellShaped : Type 0
ReadAreWellShaped = (k r deadline : ℕ) (e : Record) (s : Slot) → IsRecord e → ReadsAs k r deadline e (slot s)
    → IsSlotRecord k r deadline e s
