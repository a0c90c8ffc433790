-- Protected packets: how a slot, which is a block of k symbols and its parity of r symbols, stands in an RTP packet and in
-- a record of a capture. A symbol has m bytes. All numbers are big-endian. Of this project, version 1.
use Rattle.std.specs.Prelude.{◌≡◌, ◌≢◌, ◌⊎◌, ℕ, ◌+◌, ◌*◌, ◌%◌, ◌^◌, ◌<◌, ◌≤◌, List, [], ◌∷◌, ◌++◌, length, take, drop, slice_index, codes}
use Rattle.std.specs.Int.{w16, w32, to_be_bytes}
use Rattle.sc_rtp.specs.Head.{head_bytes, number16, number32}
use Rattle.sc_rtp.specs.Packet.{plain_head}
use Rattle.sc_rtpdump.specs.declared.kind.Kind.TheVariants.{Rtp}
use Rattle.sc_rtpdump.specs.Kind.{kind}
use Rattle.sc_rtpdump.specs.Record.{Record, record_bytes}
use Rattle.sc_slots.specs.Frame.{IsBlank}

-- A slot: its number, its end (0 for a source slot, and from 1 on for the slots that flush the last blocks out), the bytes
-- of a symbol, the RTP timestamp, the symbols of the block one after the other, and those of the parity.
pub record Slot : Type 0 where
  pub number : ℕ
  pub end : ℕ
  pub m : ℕ
  pub timestamp : ℕ
  pub block : List ℕ
  pub parity : List ℕ

-- ---- how a slot is written

-- what the first 24 bytes of a protected packet say
pub record SlotHead : Type 0 where
  pub sequence : ℕ
  pub timestamp : ℕ
  pub k : ℕ
  pub r : ℕ
  pub end : ℕ
  pub m : ℕ
  pub number : ℕ

-- The 24 bytes: an RTP head (RFC 3550, 5.1) of payload type 96 and the source of the letters SCD1; then the letters SC,
-- the version, k, r, the end, two bytes of m, and four of the slot's number.
unfoldable pub slot_head_bytes : SlotHead → List ℕ
slot_head_bytes h =
    head_bytes (plain_head 96 h.sequence h.timestamp 0x53434431)
    ++ (codes "SC" ++ (1 ∷ h.k ∷ h.r ∷ h.end ∷ [] ++ (to_be_bytes w16 h.m ++ to_be_bytes w32 h.number)))

-- the head of a slot of a code with k and r: the RTP sequence number is the slot's number in 16 bits
abbrev pub head_of_slot : ℕ → ℕ → Slot → SlotHead
head_of_slot k r s = record {
  sequence = s.number % 65536;
  timestamp = s.timestamp;
  k = k;
  r = r;
  end = s.end;
  m = s.m;
  number = s.number;
}

-- the protected packet of a slot
unfoldable pub slot_packet : ℕ → ℕ → Slot → List ℕ
slot_packet k r s = slot_head_bytes (head_of_slot k r s) ++ (s.block ++ s.parity)

-- its record, in which the packet is whole
abbrev pub slot_record : ℕ → ℕ → ℕ → Slot → Record
slot_record k r offset s = record { plen = length (slot_packet k r s); offset = offset; body = slot_packet k r s }

-- how that record is spelled
abbrev pub slot_bytes : ℕ → ℕ → ℕ → Slot → List ℕ
slot_bytes k r offset s = record_bytes (slot_record k r offset s)

-- the block has k symbols of m bytes and the parity r, and the packet fits into a record
pub record FitsPacket (k r : ℕ) (s : Slot) : Type 0 where
  pub block : length s.block ≡ k * s.m
  pub parity : length s.parity ≡ r * s.m
  pub limit : 24 + (k + r) * s.m ≤ 65527

-- ---- how a record is read

-- the numbers fit their fields
pub record FitsFields (h : SlotHead) : Type 0 where
  pub sequence : h.sequence < 2 ^ 16
  pub timestamp : h.timestamp < 2 ^ 32
  pub k : h.k < 256
  pub r : h.r < 256
  pub end : h.end < 256
  pub m : h.m < 2 ^ 16
  pub number : h.number < 2 ^ 32

-- the numbers that the first 24 bytes spell
unfoldable pub slot_head_of : List ℕ → SlotHead
slot_head_of bytes =
    let at = slice_index bytes in
    record {
      sequence = number16 (at 2) (at 3);
      timestamp = number32 (at 4) (at 5) (at 6) (at 7);
      k = at 15;
      r = at 16;
      end = at 17;
      m = number16 (at 18) (at 19);
      number = number32 (at 20) (at 21) (at 22) (at 23);
    }

-- a record is a protected packet, whole, with this head and this behind it
pub record IsProtected (e : Record) (h : SlotHead) (rest : List ℕ) : Type 0 where
  pub kind_is : kind e ≡ Rtp
  pub fits : FitsFields h
  pub parts : e.body ≡ slot_head_bytes h ++ rest

-- why a protected packet isn't one of a slot
pub data Flaw : Type 0 where
  no_width : Flaw
  other_length : Flaw
  other_sequence : Flaw
  end_above_deadline : Flaw
  end_above_number : Flaw
  flush_with_block : Flaw

-- What each says: m is 0; the packet's length isn't that of its head, block and parity; the sequence number isn't the
-- slot's number in 16 bits; the end is above the deadline, or above the slot's number plus 1; or the end isn't 0 and the
-- block isn't zero.
abbrev pub HasFlaw : ℕ → ℕ → ℕ → SlotHead → List ℕ → Flaw → Type 0
HasFlaw k r deadline h rest no_width = h.m ≡ 0
HasFlaw k r deadline h rest other_length = 24 + length rest ≢ 24 + (k + r) * h.m
HasFlaw k r deadline h rest other_sequence = h.sequence ≢ h.number % 65536
HasFlaw k r deadline h rest end_above_deadline = deadline < h.end
HasFlaw k r deadline h rest end_above_number = h.number + 1 < h.end
HasFlaw k r deadline h rest flush_with_block = (h.end ≢ 0) × (IsBlank (take (k * h.m) rest) → ⊥)

-- one of them holds
pub record HasBadShape (k r deadline : ℕ) (h : SlotHead) (rest : List ℕ) : Type 0 where
  pub flaw : Flaw
  pub has : HasFlaw k r deadline h rest flaw

-- the slot of a head and what is behind it
abbrev pub slot_behind : ℕ → SlotHead → List ℕ → Slot
slot_behind k h rest = record {
  number = h.number;
  end = h.end;
  m = h.m;
  timestamp = h.timestamp;
  block = take (k * h.m) rest;
  parity = drop (k * h.m) rest;
}

-- what a record is read as, for a code with k and r
pub data Reading : Type 0 where
  stranger : Reading
  wrong_code : Reading
  bad_shape : Reading
  slot : Slot → Reading

-- What each reading says of the record, first case first: it is no protected packet; it is one of a code with another k
-- or r; it is one of this code, but not well shaped; or it is one of this code and well shaped, with this slot.
abbrev pub ReadsAs : ℕ → ℕ → ℕ → Record → Reading → Type 0
ReadsAs k r deadline e stranger = (h : SlotHead) (rest : List ℕ) → IsProtected e h rest → ⊥
ReadsAs k r deadline e wrong_code =
    (h : SlotHead) × (rest : List ℕ) × IsProtected e h rest × ((h.k ≢ k) ⊎ (h.r ≢ r))
ReadsAs k r deadline e bad_shape =
    (h : SlotHead) × (rest : List ℕ) × IsProtected e h rest × (h.k ≡ k) × (h.r ≡ r) × HasBadShape k r deadline h rest
ReadsAs k r deadline e (slot s) =
    (h : SlotHead) × (rest : List ℕ) × IsProtected e h rest × (h.k ≡ k) × (h.r ≡ r)
    × (HasBadShape k r deadline h rest → ⊥) × (s ≡ slot_behind k h rest)

-- ---- what a slot is that was read

-- the slot's numbers fit their fields
pub record FitsSlot (s : Slot) : Type 0 where
  pub number : s.number < 2 ^ 32
  pub end : s.end < 256
  pub m : s.m < 2 ^ 16
  pub timestamp : s.timestamp < 2 ^ 32

-- A slot of a code with k and r and of a channel with this deadline, well shaped.
pub record IsSlot (k r deadline : ℕ) (s : Slot) : Type 0 where
  pub fits : FitsSlot s
  pub packet : FitsPacket k r s
  pub some : 1 ≤ s.m
  pub by_deadline : s.end ≤ deadline
  pub by_number : s.end ≤ s.number + 1
  pub flush : s.end ≢ 0 → IsBlank s.block

-- a record is that of a slot, well shaped
pub record IsSlotRecord (k r deadline : ℕ) (e : Record) (s : Slot) : Type 0 where
  pub is : IsSlot k r deadline s
  pub spelled : e ≡ slot_record k r e.offset s

-- where a record is read as a slot, it is the record of that slot, well shaped
abbrev pub SlotIsWellShaped : ℕ → ℕ → ℕ → Record → Reading → Type 0
SlotIsWellShaped k r deadline e (slot s) = IsSlotRecord k r deadline e s
SlotIsWellShaped k r deadline e _ = Unit {0}
