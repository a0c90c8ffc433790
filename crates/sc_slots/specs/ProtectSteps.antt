-- What the steps of protecting do to a port, to the bytes that wait to be written to it, and to what is kept.
use Rattle.std.specs.Prelude.{◌≡◌, ◌⊎◌, ℕ, ◌+◌, ◌-◌, ◌*◌, ◌<◌, ◌≤◌, Bool, true, false, Some, None, List, [], ◌∷◌, ◌++◌, length, map, count_by, slice_index_or, Result, Ok, Err, if◌then◌else◌}
use Rattle.std.specs.Io.KnownBytes.{IsAtEnd}
use Rattle.std.specs.List.{AllByRecursion, concat}
use Rattle.sc_outside.specs.declared.error.Failed.{Failed}
use Rattle.sc_outside.specs.Faults.{Rose}
use Rattle.sc_outside.specs.Port.{Told, Moves, Puts}
use Rattle.sc_rtpdump.specs.declared.fault.DumpFault.{DumpFault}
use Rattle.sc_rtpdump.specs.declared.fault.DumpFault.TheVariants.{Memory as NoRoom}
use Rattle.sc_rtpdump.specs.declared.kind.Kind.TheVariants.{Rtcp, Cut, Strange, Rtp}
use Rattle.sc_rtpdump.specs.Capture.{records_bytes}
use Rattle.sc_rtpdump.specs.Head.{StopsAt}
use Rattle.sc_rtpdump.specs.Record.{Record, IsRecord, empty_record, record_bytes}
use Rattle.sc_rtpdump.specs.Thin.{Carries, Loses}
use Rattle.sc_field.specs.Gf256.{gf256_product}
use Rattle.sc_matrix.specs.Layout.{cut}
use Rattle.sc_code.specs.Code.{Code, IsCode}
use Rattle.sc_code.specs.Encoder.{Encoder, StandsFor}
use Rattle.sc_code.specs.Parity.{parity}
use Rattle.sc_slots.specs.declared.maker.Label.{Label}
use Rattle.sc_slots.specs.declared.protect.ProtectFault.{ProtectFault}
use Rattle.sc_slots.specs.declared.protect.ProtectFault.TheVariants.{Dump, Write, Memory}
use Rattle.sc_slots.specs.declared.protect.Protected.{Protected}
use Rattle.sc_slots.specs.declared.protect.Taken.{Taken}
use Rattle.sc_slots.specs.Frame.{frame_bytes}
use Rattle.sc_slots.specs.Slot.{Slot, slot_bytes}
use Rattle.sc_slots.specs.Protected.{Protection, has_kind, rtp_part, timestamp_of, slot_text, slots_text, source_text, all_text, refusal, first_refused, numbers}

-- ---- one slot

-- what a maker of slots has: an encoder of this code and width, a block and a parity of its sizes, and packets that fit
pub record IsMaker (encoder : Encoder ℕ) (m : ℕ) (block parity : List ℕ) : Type 0 where
  pub code : IsCode (λ x. x < 256) encoder.code
  pub width : encoder.width ≡ m
  pub block_size : length block ≡ encoder.code.k * m
  pub parity_size : length parity ≡ encoder.code.r * m
  pub limit : 24 + (encoder.code.k + encoder.code.r) * m ≤ 65527

-- the slot with this block that follows a stream
abbrev pub next_slot : Code ℕ → ℕ → List (List (List ℕ)) → Label → List ℕ → Slot
next_slot code m before label block = record {
  number = label.number;
  end = label.end;
  m = m;
  timestamp = label.timestamp;
  block = block;
  parity = concat (parity 0 gf256_product code m (before ++ cut code.k m block ∷ []) (length before));
}

-- the same, spelled
unfoldable pub next_text : Code ℕ → ℕ → List (List (List ℕ)) → Label → List ℕ → List ℕ
next_text code m before label block = slot_bytes code.k code.r label.offset (next_slot code m before label block)

-- The record of the slot with this block was put behind the bytes that waited, for each stream that the encoder stood for,
-- and it stands for that stream with the block at its end.
pub record PutsSlot (old new : Encoder ℕ) (label : Label) (block before after : List ℕ) : Type 0 where
  pub code : new.code ≡ old.code
  pub width : new.width ≡ old.width
  pub waits : (xs : List (List (List ℕ))) → StandsFor old xs → after ≡ before ++ next_text old.code old.width xs label block
  pub stands : (xs : List (List (List ℕ))) → StandsFor old xs → StandsFor new (xs ++ cut old.code.k old.width block ∷ [])

-- ---- what is kept

-- the last RTP record, or an empty one
abbrev pub last_source : List Record → Record
last_source rtp = slice_index_or rtp (length rtp - 1) empty_record

-- what is counted of records, and what is kept of the last RTP record
abbrev pub taken_of : List Record → Taken
taken_of records = record {
  rtp = length (rtp_part records);
  rtcp = count_by (has_kind Rtcp) records;
  cut = count_by (has_kind Cut) records;
  strange = count_by (has_kind Strange) records;
  offset = (last_source (rtp_part records)).offset;
  timestamp = timestamp_of (last_source (rtp_part records)).body;
}

-- the blocks of the source slots
abbrev pub source_stream : Protection → List Record → List (List (List ℕ))
source_stream p rtp = map (λ e. cut p.code.k p.m (frame_bytes e.offset e.body (p.code.k * p.m))) rtp

-- these records were taken
pub record Knows (p : Protection) (records : List Record) (taken : Taken) (encoder : Encoder ℕ) : Type 0 where
  pub counts : taken ≡ taken_of records
  pub stands : StandsFor encoder (source_stream p (rtp_part records))

-- the encoder is of this code and width
pub record IsOf (p : Protection) (encoder : Encoder ℕ) : Type 0 where
  pub code : encoder.code ≡ p.code
  pub width : encoder.width ≡ p.m

-- the counts are those of so many records
pub record AreFew (index : ℕ) (taken : Taken) : Type 0 where
  pub rtp : taken.rtp ≤ index
  pub rtcp : taken.rtcp ≤ index
  pub cut : taken.cut ≤ index
  pub strange : taken.strange ≤ index

-- ---- one record

-- the slot of one more record, which only an RTP record has
abbrev pub more_text : Protection → List Record → Record → List ℕ
more_text p records e =
    if has_kind Rtp e then slot_text p (rtp_part records ++ e ∷ []) (length (rtp_part records)) else []

-- What counting a record answers, and what is kept and waits then.
abbrev pub Counts : Protection → ℕ → Record → Taken → Taken → Encoder ℕ → Encoder ℕ → List ℕ → List ℕ → Result (Unit {0}) ProtectFault → Type 0
Counts p index e taken taken' encoder encoder' before after (Ok u) =
    (refusal p index taken.rtp e ≡ None) × IsOf p encoder'
    × ((records : List Record) → Knows p records taken encoder → Knows p (records ++ e ∷ []) taken' encoder' × (after ≡ before ++ more_text p records e))
Counts p index e taken taken' encoder encoder' before after (Err fault) =
    (refusal p index taken.rtp e ≡ Some fault) × (after ≡ before)

-- the next record is whole and refused
pub record IsRefusedNext (p : Protection) (index rtp : ℕ) (tail : List ℕ) (fault : ProtectFault) : Type 0 where
  pub next : Record
  pub fits : IsRecord next
  pub spelled : tail ≡ record_bytes next
  pub why : refusal p index rtp next ≡ Some fault

-- The record of this number, with so many RTP records before it, isn't taken: its reading stopped, or it is refused.
abbrev pub HaltsAt : Protection → ℕ → ℕ → Told → Told → List ℕ → ProtectFault → Type 0
HaltsAt p index rtp old new tail (Dump fault) = StopsAt index old new tail fault
HaltsAt p index rtp old new tail fault = IsRefusedNext p index rtp tail fault

-- the same, behind bytes that waited
pub record HaltsBehind (p : Protection) (index rtp : ℕ) (old new : Told) (before after : List ℕ) (fault : ProtectFault) : Type 0 where
  pub tail : List ℕ
  pub carries : Carries old new tail [] before after
  pub at : HaltsAt p index rtp old new tail fault

-- a record was taken
pub record TakesRecord (p : Protection) (index : ℕ) (old new : Told) (taken taken' : Taken) (encoder encoder' : Encoder ℕ) (before after : List ℕ) : Type 0 where
  pub next : Record
  pub fits : IsRecord next
  pub accepted : refusal p index taken.rtp next ≡ None
  pub is_of : IsOf p encoder'
  pub known : (records : List Record) → Knows p records taken encoder
      → Knows p (records ++ next ∷ []) taken' encoder' × Carries old new (record_bytes next) (more_text p records next) before after

-- what taking a record answers: true where it was taken, false at the end of the input
abbrev pub TakeGives : Protection → ℕ → Told → Told → Taken → Taken → Encoder ℕ → Encoder ℕ → List ℕ → List ℕ → Result Bool ProtectFault → Type 0
TakeGives p index old new taken taken' encoder encoder' before after (Ok true) = TakesRecord p index old new taken taken' encoder encoder' before after
TakeGives p index old new taken taken' encoder encoder' before after (Ok false) =
    Carries old new [] [] before after × IsAtEnd new.left × (taken' ≡ taken) × (encoder' ≡ encoder)
TakeGives p index old new taken taken' encoder encoder' before after (Err fault) = HaltsBehind p index taken.rtp old new before after fault

-- a write failed on the way
abbrev pub LosesSome : Told → Told → List ℕ → Type 0
LosesSome old new before = (tail : List ℕ) × (lacking : List ℕ) × Loses old new tail before lacking

abbrev pub StepGives : Protection → ℕ → Told → Told → Taken → Taken → Encoder ℕ → Encoder ℕ → List ℕ → List ℕ → Result (Result Bool ProtectFault) Failed → Type 0
StepGives p index old new taken taken' encoder encoder' before after (Ok result) = TakeGives p index old new taken taken' encoder encoder' before after result
StepGives p index old new taken taken' encoder encoder' before after (Err e) = LosesSome old new before

-- ---- many records

-- These records were taken, none of which is refused, and then a tail. Their source slots were given, but for these bytes.
pub record Reached (p : Protection) (old new : Told) (records : List Record) (tail lacking : List ℕ) : Type 0 where
  pub fit : AllByRecursion IsRecord records
  pub accepted : first_refused p records ≡ None
  pub put : List ℕ
  pub moves : Moves old new (records_bytes records ++ tail) put
  pub parts : source_text p records ≡ put ++ lacking

-- so many records were taken, and what they leave is kept
pub record Passed (p : Protection) (old new : Told) (n : ℕ) (taken : Taken) (encoder : Encoder ℕ) (waiting : List ℕ) : Type 0 where
  pub records : List Record
  pub count : length records ≡ n
  pub knows : Knows p records taken encoder
  pub reached : Reached p old new records [] waiting

-- all of them were taken
pub record TakesAll (p : Protection) (old new : Told) (taken : Taken) (encoder : Encoder ℕ) (waiting : List ℕ) : Type 0 where
  pub n : ℕ
  pub bound : n ≤ 8000000
  pub passed : Passed p old new n taken encoder waiting
  pub is_of : IsOf p encoder
  pub end : IsAtEnd new.left

-- a record behind some wasn't taken
pub record HaltsAfter (p : Protection) (old new : Told) (waiting : List ℕ) (fault : ProtectFault) : Type 0 where
  pub records : List Record
  pub tail : List ℕ
  pub reached : Reached p old new records tail waiting
  pub at : HaltsAt p (length records) (length (rtp_part records)) old new tail fault

-- a write failed within the source slots
pub record LosesAfter (p : Protection) (old new : Told) : Type 0 where
  pub records : List Record
  pub tail : List ℕ
  pub lacking : List ℕ
  pub reached : Reached p old new records tail lacking
  pub short : 0 < length lacking
  pub rose : Rose old.write_faults new.write_faults

-- what taking the records behind a preamble answers, with these bytes waiting
abbrev pub RecordsGive : Protection → Told → Told → Taken → Encoder ℕ → List ℕ → Result (Result (Unit {0}) ProtectFault) Failed → Type 0
RecordsGive p old new taken encoder waiting (Ok (Ok u)) = TakesAll p old new taken encoder waiting
RecordsGive p old new taken encoder waiting (Ok (Err fault)) = HaltsAfter p old new waiting fault
RecordsGive p old new taken encoder waiting (Err e) = LosesAfter p old new

-- ---- the slots that flush

-- More bytes were put behind those that waited. A front of all of them was given, and nothing read; the rest waits.
pub record GivesMore (old new : Told) (more before after : List ℕ) : Type 0 where
  pub put : List ℕ
  pub puts : Puts old new put
  pub parts : before ++ more ≡ put ++ after

-- a write failed within the bytes that waited and more that follow them
pub record LosesMore (old new : Told) (more before : List ℕ) : Type 0 where
  pub lacking : List ℕ
  pub gives : GivesMore old new more before lacking
  pub short : 0 < length lacking
  pub rose : Rose old.write_faults new.write_faults

-- so many slots behind the source slots
abbrev pub flush_text : Protection → List Record → ℕ → List ℕ
flush_text p records n = slots_text p (rtp_part records) (length (rtp_part records)) n

-- what putting the slots that flush answers
abbrev pub FlushesGive : {U : Type 0} → Protection → Told → Told → Taken → Encoder ℕ → List ℕ → List ℕ → Result U Failed → Type 0
FlushesGive p old new taken encoder before after (Ok u) =
    (records : List Record) → Knows p records taken encoder → GivesMore old new (flush_text p records p.deadline) before after
FlushesGive p old new taken encoder before after (Err e) =
    (records : List Record) → Knows p records taken encoder → LosesMore old new (flush_text p records p.deadline) before

-- what is told where all slots were given
abbrev pub numbers_of : Protection → Taken → Protected
numbers_of p taken = record { slots = taken.rtp + p.deadline; rtcp = taken.rtcp; cut = taken.cut; strange = taken.strange }

-- what giving all that is left answers, once all records were taken
abbrev pub LastGives : Protection → Told → Told → Taken → Encoder ℕ → List ℕ → Result Protected ProtectFault → Type 0
LastGives p old new taken encoder before (Ok answer) =
    (answer ≡ numbers_of p taken) × ((records : List Record) → Knows p records taken encoder → GivesMore old new (flush_text p records p.deadline) before [])
LastGives p old new taken encoder before (Err fault) =
    (fault ≡ Write) × ((records : List Record) → Knows p records taken encoder → LosesMore old new (flush_text p records p.deadline) before)

-- the fault of protecting where reading a preamble had this one
abbrev pub fault_of : DumpFault → ProtectFault
fault_of NoRoom = Memory
fault_of fault = Dump fault

-- ---- the end

-- all records were taken, none of which is refused, and all slots were given
pub record GivesAll (p : Protection) (old new : Told) (answer : Protected) : Type 0 where
  pub records : List Record
  pub fit : AllByRecursion IsRecord records
  pub accepted : first_refused p records ≡ None
  pub moves : Moves old new (records_bytes records) (all_text p records)
  pub end : IsAtEnd new.left
  pub answered : answer ≡ numbers p records

-- a write failed when all records had been taken
pub record LosesLast (p : Protection) (old new : Told) : Type 0 where
  pub records : List Record
  pub fit : AllByRecursion IsRecord records
  pub accepted : first_refused p records ≡ None
  pub put : List ℕ
  pub lacking : List ℕ
  pub moves : Moves old new (records_bytes records) put
  pub end : IsAtEnd new.left
  pub parts : all_text p records ≡ put ++ lacking
  pub short : 0 < length lacking
  pub rose : Rose old.write_faults new.write_faults

-- what protecting the records behind a preamble answers
abbrev pub RestGives : Protection → Told → Told → Result Protected ProtectFault → Type 0
RestGives p old new (Ok answer) = GivesAll p old new answer
RestGives p old new (Err Write) = LosesAfter p old new ⊎ LosesLast p old new
RestGives p old new (Err fault) = HaltsAfter p old new [] fault
