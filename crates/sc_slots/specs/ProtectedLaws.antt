-- What is said of protected captures in the words of captures, of RTP and of slots.
use Rattle.std.specs.Prelude.{◌≡◌, ℕ, ◌+◌, ◌*◌, ◌<◌, ◌≤◌, None, List, length, map}
use Rattle.std.specs.List.{AllByRecursion, range_with_len}
use Rattle.sc_rtpdump.specs.declared.kind.Kind.TheVariants.{Rtp}
use Rattle.sc_rtpdump.specs.Capture.{IsCapture, AreBytes}
use Rattle.sc_rtpdump.specs.Kind.{kind}
use Rattle.sc_rtpdump.specs.Record.{Record}
use Rattle.sc_code.specs.Code.{IsCode}
use Rattle.sc_slots.specs.Slot.{IsSlot, slot_record}
use Rattle.sc_slots.specs.Protected.{Protection, packet_len, rtp_part, source_of, slot_at, first_refused, protected}

-- a protection is within the limits, a capture is of bytes, and none of its records is refused
pub record IsProtectable (p : Protection) (input : List ℕ) (records : List Record) : Type 0 where
  pub code : IsCode (λ x. x < 256) p.code
  pub deadline : p.deadline ≤ 40
  pub some : 1 ≤ p.m
  pub fits : p.size + 6 ≤ p.code.k * p.m
  pub limit : packet_len p ≤ 65527
  pub bytes : AreBytes input
  pub accepted : first_refused p records ≡ None

-- the records of the slots
abbrev pub slot_records : Protection → List Record → List Record
slot_records p rtp =
    map (λ t. slot_record p.code.k p.code.r (source_of rtp t).offset (slot_at p rtp t)) (range_with_len 0 (length rtp + p.deadline))

-- the protected capture is a capture: the preamble and these records
abbrev pub ProtectedAreCaptures : Type 0
ProtectedAreCaptures = (p : Protection) (input preamble : List ℕ) (records : List Record) → IsCapture input preamble records → IsProtectable p input records
    → IsCapture (protected p preamble records) preamble (slot_records p (rtp_part records))

-- one for each RTP record, and one for each slot of the deadline
abbrev pub ProtectedAreCounted : Type 0
ProtectedAreCounted = (p : Protection) (rtp : List Record) → length (slot_records p rtp) ≡ length rtp + p.deadline

-- each is a whole RTP packet
abbrev pub ProtectedAreRtp : Type 0
ProtectedAreRtp = (p : Protection) (input preamble : List ℕ) (records : List Record) → IsCapture input preamble records → IsProtectable p input records
    → AllByRecursion (λ e. kind e ≡ Rtp) (slot_records p (rtp_part records))

-- and a well shaped slot
abbrev pub SlotsAreWellShaped : Type 0
SlotsAreWellShaped = (p : Protection) (input preamble : List ℕ) (records : List Record) → IsCapture input preamble records → IsProtectable p input records
    → (t : ℕ) → t < length (rtp_part records) + p.deadline → IsSlot p.code.k p.code.r p.deadline (slot_at p (rtp_part records) t)
