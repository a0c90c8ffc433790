-- What comes back of a protected capture: whatever its code can do, each RTP record, byte for byte, or else it is missed; and
-- over a channel that its code meets all of them, and each in time.
use Rattle.std.specs.Prelude.{Some, None, ◌≡◌, ℕ, ◌+◌, ◌<◌, Bool, true, List, ◌++◌, length, take, map, count_by, is_none, slice_index_or, Option, Result, Ok, IsOk}
use Rattle.sc_field.specs.Gf256.{gf256_product}
use Rattle.sc_matrix.specs.Module.{IsByte}
use Rattle.sc_outside.specs.declared.journal.Move.{Move}
use Rattle.sc_outside.specs.Ends.{Due, IsPrefix}
use Rattle.sc_outside.specs.Port.{Told}
use Rattle.sc_channel.specs.Channel.{IsChannel}
use Rattle.sc_channel.specs.Loss.{IsAdmissible}
use Rattle.sc_rtpdump.specs.Record.{Record}
use Rattle.sc_rtpdump.specs.Capture.{IsCapture, AreBytes, records_bytes}
use Rattle.sc_rtpdump.specs.Thin.{kept, thinned, thinning}
use Rattle.sc_code.specs.Code.{IsCode}
use Rattle.sc_code.specs.Determined.{Meets}
use Rattle.sc_code.specs.declared.code.CodeFile.{CodeFile}
use Rattle.sc_slots.specs.Protected.{protection_of, rtp_part, protecting}
use Rattle.sc_slots.specs.ProtectedLaws.{slot_records}
use Rattle.sc_slots.specs.Prompt.{IsWrittenBefore}
use Rattle.sc_slots.specs.Repair.{IsOutcome}
use Rattle.sc_slots.specs.Taken.{Taken}
use Rattle.sc_repair.specs.declared.repair.RepairEnd.{RepairEnd}
use Rattle.sc_repair.specs.declared.repair.Repaired.{Repaired}
use Rattle.sc_repair.specs.Repairing.{slots_in, taken_of, repairing}
use Rattle.sc_repair.specs.Prompt.{IsPrompt}
use Rattle.sc_repair.specs.Values.{outcomes}

-- A capture of this preamble and these records is protected by a code file, for packets of at most `size` bytes, and nothing
-- of it is refused. Of the slots, source and flush slots alike, the channel loses those whose flag is set. Nothing is asked of
-- what the code can do.
pub record IsSentBy (file : CodeFile) (size : ℕ) (input preamble : List ℕ) (records : List Record) (flags : List Bool) : Type 0 where
  pub channel : IsChannel file.channel
  pub code : IsCode IsByte file.code
  pub bytes : AreBytes input
  pub capture : IsCapture input preamble records
  pub is_protected : IsOk ((protecting file size).whole input).answer
  pub admissible : IsAdmissible file.channel flags
  pub flag_count : length flags ≡ length (rtp_part records) + file.channel.t

-- The same, where the code meets the channel.
pub record IsSentThrough (file : CodeFile) (size : ℕ) (input preamble : List ℕ) (records : List Record) (flags : List Bool) : Type 0 where
  pub sent : IsSentBy file size input preamble records flags
  pub meets : Meets 0 gf256_product file.code file.channel

-- An input of bytes that protecting doesn't refuse is a capture, so the premise says no more of it than that.
abbrev pub ProtectedIsCapture : Type 0
ProtectedIsCapture = (file : CodeFile) (size : ℕ) (input : List ℕ) → AreBytes input → IsOk ((protecting file size).whole input).answer
    → (preamble : List ℕ) × (records : List Record) × IsCapture input preamble records

-- the records of all slots, in order
abbrev pub sent_records : CodeFile → ℕ → List Record → List Record
sent_records file size records = slot_records (protection_of file size) (rtp_part records)

-- what the loss leaves of the protected capture
abbrev pub arrived : CodeFile → ℕ → List ℕ → List Bool → List ℕ
arrived file size input flags = ((thinning flags).whole ((protecting file size).whole input).text).text

-- It is the thinned capture of those records.
abbrev pub ArrivedIsThinned : Type 0
ArrivedIsThinned = (file : CodeFile) (size : ℕ) (input preamble : List ℕ) (records : List Record) (flags : List Bool) → IsSentBy file size input preamble records flags
    → arrived file size input flags ≡ thinned flags preamble (sent_records file size records)

-- ---- whatever the code can do

-- the slots that are taken of what the loss leaves
abbrev pub arrived_slots : CodeFile → ℕ → List Record → List Bool → List (Taken ℕ)
arrived_slots file size records flags = taken_of file (slots_in file (kept flags (sent_records file size records)))

-- what the end of the input leaves of the slots of the RTP records: the block of each that is recovered
abbrev pub came_back : CodeFile → ℕ → List Record → List Bool → List (Option (List (List ℕ)))
came_back file size records flags =
    outcomes file.code.k (protection_of file size).m file.channel.t (arrived_slots file size records flags) (length (rtp_part records))

-- what is due where each RTP record comes back whose slot has a value, the others are missed, and nothing is strange or
-- repeated
abbrev pub some_back : List ℕ → List Record → List (Option (List (List ℕ))) → Due (Result Repaired RepairEnd)
some_back preamble rtp values =
    record { answer = Ok (record { end = length rtp; missed = count_by is_none values; strangers = 0; repeats = 0 }); text = preamble ++ records_bytes (kept (map is_none values) rtp); at_end = true }

-- Repairing what arrived owes each RTP record whose slot is recovered, byte for byte and in order, and no other byte behind
-- the preamble. The others are missed, and nothing is refused.
abbrev pub EachComesBackOrIsMissed : Type 0
EachComesBackOrIsMissed = (file : CodeFile) (size : ℕ) (input preamble : List ℕ) (records : List Record) (flags : List Bool) → IsSentBy file size input preamble records flags
    → (repairing file).whole (arrived file size input flags) ≡ some_back preamble (rtp_part records) (came_back file size records flags)

-- The slots that are missed are exactly those of which no block is recovered: each value is the block that all streams have
-- that fit the slots taken up to the deadline, where they all have one. It is so of any records and flags.
abbrev pub MissedAreNotRecovered : Type 0
MissedAreNotRecovered = (file : CodeFile) (size : ℕ) (records : List Record) (flags : List Bool) → (length (came_back file size records flags) ≡ length (rtp_part records))
    × ((t : ℕ) → t < length (rtp_part records) → IsOutcome 0 gf256_product file.code.k (protection_of file size).m file.channel.t (arrived_slots file size records flags) t (slice_index_or (came_back file size records flags) t None))

-- ---- where the code meets the channel

-- what is due where each RTP record comes back, and nothing is missed, strange or repeated
abbrev pub all_back : List ℕ → List Record → Due (Result Repaired RepairEnd)
all_back preamble rtp =
    record { answer = Ok (record { end = length rtp; missed = 0; strangers = 0; repeats = 0 }); text = preamble ++ records_bytes rtp; at_end = true }

-- Repairing what arrived owes the RTP part of the capture, byte for byte.
abbrev pub RtpPartComesBack : Type 0
RtpPartComesBack = (file : CodeFile) (size : ℕ) (input preamble : List ℕ) (records : List Record) (flags : List Bool) → IsSentThrough file size input preamble records flags
    → (repairing file).whole (arrived file size input flags) ≡ all_back preamble (rtp_part records)

-- And each record in time: once nothing is left to read of the slots up to slot t + T, where T is the deadline, which is
-- before a byte is read of the first record with a greater slot number, the record of slot t is due.
abbrev pub RecordsComeInTime : Type 0
RecordsComeInTime = (file : CodeFile) (size : ℕ) (input preamble : List ℕ) (records : List Record) (flags : List Bool) → IsSentThrough file size input preamble records flags
    → (t n : ℕ) → t < length (rtp_part records) → t + file.channel.t < n
    → IsPrefix (preamble ++ records_bytes (take (t + 1) (rtp_part records))) ((repairing file).so_far (thinned flags preamble (take n (sent_records file size records))))

-- what is left of the first n slots is at the front of what is left of all
abbrev pub FirstSlotsComeFirst : Type 0
FirstSlotsComeFirst =
    (preamble : List ℕ) (slots : List Record) (flags : List Bool) (n : ℕ) → IsPrefix (thinned flags preamble (take n slots)) (thinned flags preamble slots)

-- In these moves of a run, the record of slot t, with all that comes before it, is wholly written before a read takes a byte
-- of the first record with a slot number above t + T, where T is the deadline.
abbrev pub IsTimely : CodeFile → ℕ → List ℕ → List Record → List Bool → List Move → ℕ → Type 0
IsTimely file size preamble records flags moves t =
    IsWrittenBefore moves (length (thinned flags preamble (take (t + file.channel.t + 1) (sent_records file size records))))
    (length (preamble ++ records_bytes (take (t + 1) (rtp_part records))))

-- A run that is prompt is timely for each slot that has a record.
abbrev pub PromptRunsAreTimely : Type 0
PromptRunsAreTimely = (file : CodeFile) (size : ℕ) (input preamble : List ℕ) (records : List Record) (flags : List Bool) → IsSentThrough file size input preamble records flags
    → (old new : Told) (journal moves : List Move) → old.left ≡ Some (arrived file size input flags) → old.journal ≡ Some journal → new.journal ≡ Some (journal ++ moves)
    → IsPrompt (repairing file) old new → (t : ℕ) → t < length (rtp_part records) → IsTimely file size preamble records flags moves t
