-- The protected capture: the preamble of a capture, and then a protected packet for each slot of a stream. The blocks of
-- the stream are the frames of the capture's RTP records in order, and behind them a zero block for each slot of the
-- deadline. What of a capture is refused, and what protecting one owes. Of this project.
use Rattle.std.specs.Prelude.{ℕ, zero, suc, ◌+◌, ◌-◌, ◌*◌, Bool, true, false, min, Option, Some, None, List, [], ◌++◌, length, take, map, filter, replicate, count_by, nat_le, nat_lt, slice_index_or, Result, Ok, Err, if◌then◌else◌}
use Rattle.std.specs.List.{flat_map, concat, range_with_len}
use Rattle.sc_outside.specs.Ends.{Due, Job, only, at_once}
use Rattle.sc_rtp.specs.Head.{head_of}
use Rattle.sc_rtpdump.specs.declared.fault.DumpFault.TheVariants.{Preamble, Read, Memory as NoRoom}
use Rattle.sc_rtpdump.specs.declared.kind.Kind.{Kind}
use Rattle.sc_rtpdump.specs.declared.kind.Kind.TheVariants.{Rtcp, Cut, Strange, Rtp}
use Rattle.sc_rtpdump.specs.Record.{Record, empty_record, Front, breaks, front_of}
use Rattle.sc_rtpdump.specs.Capture.{Parts, Reading, no_preamble, reads, reading_of}
use Rattle.sc_rtpdump.specs.Kind.{kind}
use Rattle.sc_rtpdump.specs.Thin.{break_fault}
use Rattle.sc_field.specs.Gf256.{gf256_product}
use Rattle.sc_matrix.specs.Layout.{cut}
use Rattle.sc_code.specs.declared.code.CodeFile.{CodeFile}
use Rattle.sc_code.specs.Code.{Code}
use Rattle.sc_code.specs.Parity.{parity}
use Rattle.sc_slots.specs.declared.protect.ProtectFault.{ProtectFault}
use Rattle.sc_slots.specs.declared.protect.ProtectFault.TheVariants.{TooWide, Dump, TooManyRecords, TooLong, TooManySlots, Write, Memory}
use Rattle.sc_slots.specs.declared.protect.Protected.{Protected}
use Rattle.sc_slots.specs.Frame.{width_of, frame_bytes}
use Rattle.sc_slots.specs.Slot.{Slot, slot_bytes}

-- What a capture is protected by: a code, the bytes of a symbol, the deadline in slots, and the greatest size of a packet.
pub record Protection : Type 0 where
  pub code : Code ℕ
  pub m : ℕ
  pub deadline : ℕ
  pub size : ℕ

-- the one of a code file and a size
abbrev pub protection_of : CodeFile → ℕ → Protection
protection_of file size = record { code = file.code; m = width_of size file.code.k; deadline = file.channel.t; size = size }

-- the bytes of a protected packet
abbrev pub packet_len : Protection → ℕ
packet_len p = 24 + (p.code.k + p.code.r) * p.m

-- ---- the stream

abbrev pub is_kind : Kind → Kind → Bool
is_kind Rtcp Rtcp = true
is_kind Cut Cut = true
is_kind Strange Strange = true
is_kind Rtp Rtp = true
is_kind _ _ = false

-- a record is of a kind
abbrev pub has_kind : Kind → Record → Bool
has_kind k e = is_kind k (kind e)

-- the RTP records, in order
abbrev pub rtp_part : List Record → List Record
rtp_part records = filter (has_kind Rtp) records

-- how the blocks are spelled: the frame of each RTP record, and then the zero blocks
abbrev pub blocks : Protection → List Record → List (List ℕ)
blocks p rtp =
    map (λ e. frame_bytes e.offset e.body (p.code.k * p.m)) rtp ++ replicate p.deadline (replicate (p.code.k * p.m) 0)

-- the stream: each block in its symbols
abbrev pub stream : Protection → List Record → List (List (List ℕ))
stream p rtp = map (cut p.code.k p.m) (blocks p rtp)

-- the record whose offset and timestamp slot t has: RTP record t or, past the last one, the last. It is an empty one, with
-- 0 for both, where there is none.
abbrev pub source_of : List Record → ℕ → Record
source_of rtp t = slice_index_or rtp (min t (length rtp - 1)) empty_record

-- the RTP timestamp of a packet
abbrev pub timestamp_of : List ℕ → ℕ
timestamp_of packet = (head_of packet).timestamp

-- slot t: its end is 0 where it has an RTP record, and 1, 2 and so on from then on
abbrev pub slot_at : Protection → List Record → ℕ → Slot
slot_at p rtp t = record {
  number = t;
  end = t + 1 - length rtp;
  m = p.m;
  timestamp = timestamp_of (source_of rtp t).body;
  block = slice_index_or (blocks p rtp) t [];
  parity = concat (parity 0 gf256_product p.code p.m (stream p rtp) t);
}

-- how the record of slot t is spelled
unfoldable pub slot_text : Protection → List Record → ℕ → List ℕ
slot_text p rtp t = slot_bytes p.code.k p.code.r (source_of rtp t).offset (slot_at p rtp t)

-- so many slots, from slot t on
abbrev pub slots_text : Protection → List Record → ℕ → ℕ → List ℕ
slots_text p rtp t n = flat_map (slot_text p rtp) (range_with_len t n)

-- the source slots of records, and with them the slots that flush the last blocks out
abbrev pub source_text : Protection → List Record → List ℕ
source_text p records = slots_text p (rtp_part records) 0 (length (rtp_part records))

abbrev pub all_text : Protection → List Record → List ℕ
all_text p records = slots_text p (rtp_part records) 0 (length (rtp_part records) + p.deadline)

-- the protected capture
abbrev pub protected : Protection → List ℕ → List Record → List ℕ
protected p preamble records = preamble ++ all_text p records

-- ---- what is refused

-- Why a record is refused that has this index among all records, and so many RTP records before it: it is one more than
-- 8,000,000; or it is an RTP record, and its packet is too long, or no slot is left for it, since a protected capture has
-- at most 4,000,000 slots, the last ones among them.
unfoldable pub refusal : Protection → ℕ → ℕ → Record → Option ProtectFault
refusal p index before e =
    if nat_le 8000000 index then Some TooManyRecords
    else (if has_kind Rtp e then
    (if nat_lt p.size (length e.body) then Some (TooLong index (length e.body))
    else (if nat_le (4000000 - p.deadline) before then Some TooManySlots else None))
    else None)

-- why record i of these is refused
abbrev pub refusal_at : Protection → List Record → ℕ → Option ProtectFault
refusal_at p records i = refusal p i (length (rtp_part (take i records))) (slice_index_or records i empty_record)

-- an index with what is there, where something is
abbrev pub at_index : ℕ → Option ProtectFault → Option (ℕ × ProtectFault)
at_index i None = None
at_index i (Some fault) = Some (i, fault)

abbrev pub or_else : Option (ℕ × ProtectFault) → Option (ℕ × ProtectFault) → Option (ℕ × ProtectFault)
or_else None other = other
or_else (Some first) other = Some first

-- the first refused one of the first n records, and why it is refused
abbrev pub first_below : Protection → List Record → ℕ → Option (ℕ × ProtectFault)
first_below p records zero = None
first_below p records (suc n) = or_else (first_below p records n) (at_index n (refusal_at p records n))

-- the first refused one of all
abbrev pub first_refused : Protection → List Record → Option (ℕ × ProtectFault)
first_refused p records = first_below p records (length records)

-- ---- what protecting owes

-- the number of slots, and how many records of each other kind there are
abbrev pub numbers : Protection → List Record → Protected
numbers p records = record {
  slots = length (rtp_part records) + p.deadline;
  rtcp = count_by (has_kind Rtcp) records;
  cut = count_by (has_kind Cut) records;
  strange = count_by (has_kind Strange) records;
}

-- a refusal of the input: the preamble is due, and the source slots of the records before it
abbrev pub refused : Protection → List ℕ → List Record → ProtectFault → Due (Result Protected ProtectFault)
refused p preamble records fault = record { answer = Err fault; text = preamble ++ source_text p records; at_end = false }

-- where no record is refused, by what stands behind them
abbrev pub due_behind : Protection → List ℕ → List Record → Front → Due (Result Protected ProtectFault)
due_behind p preamble records (breaks break) = refused p preamble records (Dump (break_fault (length records) break))
due_behind p preamble records _ =
    record { answer = Ok (numbers p records); text = protected p preamble records; at_end = true }

-- a record that is refused comes before what stands behind all
abbrev pub due_by : Protection → List ℕ → Parts → Option (ℕ × ProtectFault) → Due (Result Protected ProtectFault)
due_by p preamble parts (Some first) = refused p preamble (take first.0 parts.records) first.1
due_by p preamble parts None = due_behind p preamble parts.records (front_of parts.tail)

-- what is due for a whole input
abbrev pub due_of : Protection → Reading → Due (Result Protected ProtectFault)
due_of p no_preamble = record { answer = Err (Dump Preamble); text = []; at_end = false }
due_of p (reads preamble parts) = due_by p preamble parts (first_refused p parts.records)

-- the records before the first refused one
abbrev pub before_refused : List Record → Option (ℕ × ProtectFault) → List Record
before_refused records None = records
before_refused records (Some first) = take first.0 records

abbrev pub accepted : Protection → List Record → List Record
accepted p records = before_refused records (first_refused p records)

-- what is due once these bytes were taken, whatever follows
abbrev pub text_so_far : Protection → Reading → List ℕ
text_so_far p no_preamble = []
text_so_far p (reads preamble parts) = preamble ++ source_text p (accepted p parts.records)

-- What protecting a capture owes. It is done at the input's end alone, and memory runs out before anything is given.
abbrev pub protecting_by : Protection → Job (Result Protected ProtectFault)
protecting_by p = record {
  reads = true;
  allocates = true;
  so_far = λ taken. text_so_far p (reading_of taken);
  whole = λ input. due_of p (reading_of input);
  before_memory = λ _. [];
  read_failed = Err (Dump Read);
  write_failed = Err Write;
  no_memory = Err Memory;
}

-- a protected packet that no record holds is refused at once, and nothing is read
abbrev pub too_wide : Protection → Job (Result Protected ProtectFault)
too_wide p = at_once (only (Err (TooWide (packet_len p)))) false [] (Err (Dump Read)) (Err Write) (Err Memory)

abbrev pub protecting_within : Bool → Protection → Job (Result Protected ProtectFault)
protecting_within true p = too_wide p
protecting_within false p = protecting_by p

-- what protecting by a code file owes, with packets of at most so many bytes
abbrev pub protecting : CodeFile → ℕ → Job (Result Protected ProtectFault)
protecting file size = protecting_within (nat_lt 65527 (packet_len (protection_of file size))) (protection_of file size)

-- The answers that the input decides: none of those where a read or a write failed, or memory ran out.
abbrev pub IsOfInput : Result Protected ProtectFault → Type 0
IsOfInput (Ok answer) = Unit {0}
IsOfInput (Err (Dump Read)) = ⊥
IsOfInput (Err (Dump NoRoom)) = ⊥
IsOfInput (Err (Dump fault)) = Unit {0}
IsOfInput (Err Write) = ⊥
IsOfInput (Err Memory) = ⊥
IsOfInput (Err fault) = Unit {0}
