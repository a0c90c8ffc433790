-- What a record and a block are read as, as functions of them: by their numbers, and by whether they are spelled with these.
use Rattle.std.specs.Prelude.{ℕ, ◌+◌, ◌*◌, ◌%◌, ◌&&◌, ◌||◌, Bool, true, false, List, [], length, take, drop, slice_index, not, nat_eq, nat_lt, nat_le, bytes_eq, if◌then◌else◌}
use Rattle.std.specs.List.{list_all, concat}
use Rattle.sc_rtp.specs.Head.{number16, number32}
use Rattle.sc_rtpdump.specs.declared.kind.Kind.TheVariants.{Rtp}
use Rattle.sc_rtpdump.specs.Record.{Record, record_bytes}
use Rattle.sc_slots.specs.Frame.{Unframed, blank, framed, bad, frame_bytes}
use Rattle.sc_slots.specs.Protected.{has_kind}
use Rattle.sc_slots.specs.Slot.{SlotHead, Reading, stranger, wrong_code, bad_shape, slot, slot_head_of, slot_head_bytes, slot_behind}

-- all bytes are zero
abbrev pub are_zero : List ℕ → Bool
are_zero bytes = list_all (λ byte. nat_eq byte 0) bytes

-- ---- records

-- a record is a protected packet: its first 24 bytes spell a head
abbrev pub is_protected : Record → Bool
is_protected e = has_kind Rtp e && bytes_eq (take 24 e.body) (slot_head_bytes (slot_head_of e.body))

-- a protected packet with this head, and this behind it, isn't well shaped
abbrev pub has_bad_shape : ℕ → ℕ → ℕ → SlotHead → List ℕ → Bool
has_bad_shape k r deadline h rest =
    nat_eq h.m 0
    || (not (nat_eq (24 + length rest) (24 + (k + r) * h.m))
    || (not (nat_eq h.sequence (h.number % 65536))
    || (nat_lt deadline h.end
    || (nat_lt (h.number + 1) h.end
    || (not (nat_eq h.end 0) && not (are_zero (take (k * h.m) rest)))))))

abbrev pub reading_behind : ℕ → ℕ → ℕ → SlotHead → List ℕ → Reading
reading_behind k r deadline h rest =
    if nat_eq h.k k && nat_eq h.r r then (if has_bad_shape k r deadline h rest then bad_shape else slot (slot_behind k h rest)) else wrong_code

-- what a record is read as, for a code with k and r and a channel with this deadline
unfoldable pub record_reading : ℕ → ℕ → ℕ → Record → Reading
record_reading k r deadline e =
    if is_protected e then reading_behind k r deadline (slot_head_of e.body) (drop 24 e.body) else stranger

-- ---- blocks

-- the length, the offset and the packet that the bytes of a block spell, if they spell a frame
abbrev pub frame_len : List ℕ → ℕ
frame_len block = number16 (slice_index block 0) (slice_index block 1)

abbrev pub frame_offset : List ℕ → ℕ
frame_offset block = number32 (slice_index block 2) (slice_index block 3) (slice_index block 4) (slice_index block 5)

abbrev pub frame_packet : List ℕ → List ℕ
frame_packet block = take (frame_len block) (drop 6 block)

-- they do
abbrev pub is_frame : List ℕ → Bool
is_frame block =
    nat_le 1 (frame_len block)
    && (nat_le (6 + frame_len block) (length block)
    && bytes_eq block (frame_bytes (frame_offset block) (frame_packet block) (length block)))

-- what a block is read as
unfoldable pub block_reading : List ℕ → Unframed
block_reading block =
    if are_zero block then blank else (if is_frame block then framed (frame_offset block) (frame_packet block) else bad)

-- ---- what a block writes

-- the record of a frame; zeros write nothing
abbrev pub frame_text : Unframed → List ℕ
frame_text blank = []
frame_text (framed offset packet) = record_bytes (record { plen = length packet; offset = offset; body = packet })
frame_text bad = []

abbrev pub is_bad : Unframed → Bool
is_bad blank = false
is_bad (framed offset packet) = false
is_bad bad = true

-- the same of a block in its symbols
abbrev pub block_text : List (List ℕ) → List ℕ
block_text block = frame_text (block_reading (concat block))

abbrev pub is_bad_block : List (List ℕ) → Bool
is_bad_block block = is_bad (block_reading (concat block))
