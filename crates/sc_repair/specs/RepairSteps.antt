-- What taking slots and records does to a port, to the bytes that wait, and to what is kept. For private contracts alone.
use Rattle.std.specs.Prelude.{◌≡◌, ◌⊎◌, ℕ, ◌+◌, ◌<◌, ◌≤◌, Bool, true, false, List, [], ◌∷◌, ◌++◌, length, take, count_by, Option, Some, None, Result, Ok, Err}
use Rattle.std.specs.Io.KnownBytes.{IsAtEnd}
use Rattle.std.specs.List.{AllByRecursion}
use Rattle.sc_outside.specs.declared.error.Failed.{Failed}
use Rattle.sc_outside.specs.Ends.{IsPrefix, IsProperPrefix}
use Rattle.sc_outside.specs.Faults.{Rose}
use Rattle.sc_outside.specs.Port.{Told, Moves}
use Rattle.sc_rtpdump.specs.declared.fault.DumpFault.{DumpFault}
use Rattle.sc_rtpdump.specs.declared.fault.DumpFault.TheVariants.{Memory as NoRoom}
use Rattle.sc_rtpdump.specs.Capture.{records_bytes}
use Rattle.sc_rtpdump.specs.Head.{StopsAt}
use Rattle.sc_rtpdump.specs.Record.{Record, IsRecord, record_bytes}
use Rattle.sc_code.specs.declared.code.CodeFile.{CodeFile}
use Rattle.sc_slots.specs.ProtectSteps.{GivesMore, LosesMore}
use Rattle.sc_slots.specs.Slot.{Slot}
use Rattle.sc_slots.specs.Taken.{Taken, one_past, known_end}
use Rattle.sc_repair.specs.declared.repair.Counts.{Counts}
use Rattle.sc_repair.specs.declared.repair.RepairEnd.{RepairEnd}
use Rattle.sc_repair.specs.declared.repair.RepairEnd.TheVariants.{Dump, BadBlock, Write, Memory}
use Rattle.sc_repair.specs.declared.repair.Repaired.{Repaired}
use Rattle.sc_repair.specs.Repairer.{Repairer}
use Rattle.sc_repair.specs.Repairing.{Refusal, values_text, is_stranger, width_in, read_as, slots_in, taken_of, put_of, values_of, values_so_far, stop_by, slot_refusal, refusal, first_refused, last_values, missed_of, numbers, bad_among}
use Rattle.sc_repair.specs.Stands.{Stands}
use Rattle.sc_repair.specs.Steps.{Done, Halts, LosesTo}
use Rattle.sc_repair.specs.Values.{put_values}

-- ---- what is kept

-- A repairer goes on: it is by the code and the deadline of a file, and what waits to be put out is near.
pub record IsSet (file : CodeFile) (s : Repairer) (missed : ℕ) : Type 0 where
  pub k : s.k ≡ file.code.k
  pub r : s.r ≡ file.code.r
  pub lags : length file.code.lags ≡ s.memory + 1
  pub deadline : s.deadline ≡ file.channel.t
  pub goes_on : s.finished ≡ false
  pub near : s.passed ≤ s.next + s.deadline
  pub few : missed ≤ s.next
  pub own : s.own ≡ file.code

-- the values of the slots that are put out once those passed are
abbrev pub values_now : Repairer → List (Taken ℕ) → List (Option (List (List ℕ)))
values_now s taken = put_values s.k s.m s.deadline taken s.passed

-- it stands for these taken slots, and all that is settled is put out: none of it is bad, and this is what it writes
pub record IsReady (s : Repairer) (taken : List (Taken ℕ)) (missed : ℕ) (text : List ℕ) : Type 0 where
  pub stands : Stands s taken
  pub next : s.next ≡ length (values_now s taken)
  pub done : Done (values_now s taken) 4000000 missed text

-- more is put behind the bytes that wait, and then it is ready
pub record GetsReady (old new : Told) (before after : List ℕ) (s : Repairer) (taken : List (Taken ℕ)) (missed : ℕ) (text : List ℕ) : Type 0 where
  pub more : List ℕ
  pub gives : GivesMore old new more before after
  pub ready : IsReady s taken missed (text ++ more)

-- ---- passing lost slots

abbrev pub PassGives : ℕ → Told → Told → List ℕ → List ℕ → Repairer → Repairer → List (Taken ℕ) → ℕ → List ℕ → Result (Option ℕ) Failed → Type 0
PassGives number old new before after s s' taken missed text (Ok None) = GetsReady old new before after s' taken missed text
PassGives number old new before after s s' taken missed text (Ok (Some t)) =
    Halts (put_values s.k s.m s.deadline taken number) old new before after text t
PassGives number old new before after s s' taken missed text (Err e) = LosesTo (put_values s.k s.m s.deadline taken number) old new before text

abbrev pub PassCounts : ℕ → Repairer → Repairer → ℕ → Result (Option ℕ) Failed → Type 0
PassCounts number old new missed (Ok None) =
    (new ≡ record old { front = new.front; passed = number; next = new.next; known = new.known; block = new.block })
    × (number ≤ new.next + old.deadline) × (missed ≤ new.next)
PassCounts number old new missed (Ok (Some t)) = Unit {0}
PassCounts number old new missed (Err e) = Unit {0}

-- ---- refusals

-- a refusal, after what was put out of the slots before: more is put behind the bytes that wait
pub record IsRefused (why : Option Refusal) (old new : Told) (before after text : List ℕ) (fault : RepairEnd) : Type 0 where
  pub refused : Refusal
  pub is_why : why ≡ Some refused
  pub is_fault : refused.fault ≡ fault
  pub more : List ℕ
  pub gives : GivesMore old new more before after
  pub is_text : text ++ more ≡ values_text refused.values

-- what is due: all that is put out, up to a refusal
abbrev pub due_text : Option Refusal → List (Option (List (List ℕ))) → List ℕ
due_text (Some r) values = values_text r.values
due_text None values = values_text values

-- a write failed within what is due
pub record FallsShort (due : List ℕ) (old new : Told) (before text : List ℕ) : Type 0 where
  pub more : List ℕ
  pub loses : LosesMore old new more before
  pub prefix : IsPrefix (text ++ more) due

-- ---- taking a slot that fits

abbrev pub SlotGives : CodeFile → Repairer → Repairer → List (Taken ℕ) → Taken ℕ → Told → Told → List ℕ → List ℕ → ℕ → List ℕ → Result (Result (Unit {0}) RepairEnd) Failed → Type 0
SlotGives file s s' taken slot old new before after missed text (Ok (Ok u)) =
    (stop_by file s.m taken slot ≡ None) × GetsReady old new before after s' (taken ++ slot ∷ []) missed text
SlotGives file s s' taken slot old new before after missed text (Ok (Err fault)) =
    IsRefused (stop_by file s.m taken slot) old new before after text fault
SlotGives file s s' taken slot old new before after missed text (Err e) =
    FallsShort (due_text (stop_by file s.m taken slot) (put_of file s.m (taken ++ slot ∷ []) (slot.number + 1))) old new before text

-- how far it is then
abbrev pub SlotCounts : CodeFile → ℕ → Repairer → Repairer → ℕ → Result (Result (Unit {0}) RepairEnd) Failed → Type 0
SlotCounts file number old new missed (Ok (Ok u)) = IsSet file new missed × (new.passed ≡ number + 1) × (new.m ≡ old.m)
SlotCounts file number old new missed (Ok (Err fault)) = fault ≡ Memory → ⊥
SlotCounts file number old new missed (Err e) = Unit {0}

-- ---- slots

-- After these slots none of which is refused: all up to the last taken one are passed, and the missed ones that are put out
-- lie below the known end.
pub record Rests (file : CodeFile) (slots : List Slot) (s : Repairer) (missed : ℕ) (text : List ℕ) : Type 0 where
  pub ready : IsReady s (taken_of file slots) missed text
  pub passed : s.passed ≡ one_past (taken_of file slots)
  pub claim_near : one_past (taken_of file slots) ≤ known_end (taken_of file slots) + file.channel.t

-- more is put behind the bytes that wait, and then it rests after these slots
pub record GetsRest (file : CodeFile) (old new : Told) (before after : List ℕ) (slots : List Slot) (s : Repairer) (missed : ℕ) (text : List ℕ) : Type 0 where
  pub more : List ℕ
  pub gives : GivesMore old new more before after
  pub rests : Rests file slots s missed (text ++ more)

-- what a slot answers whose symbols have as many bytes as those of the first
abbrev pub PlaceGives : CodeFile → Repairer → Repairer → List Slot → Slot → Told → Told → List ℕ → List ℕ → ℕ → List ℕ → Result (Result (Unit {0}) RepairEnd) Failed → Type 0
PlaceGives file s s' slots slot old new before after missed text (Ok (Ok u)) =
    (slot_refusal file slots slot ≡ None) × GetsRest file old new before after (slots ++ slot ∷ []) s' missed text
PlaceGives file s s' slots slot old new before after missed text (Ok (Err fault)) =
    IsRefused (slot_refusal file slots slot) old new before after text fault
PlaceGives file s s' slots slot old new before after missed text (Err e) =
    FallsShort (due_text (slot_refusal file slots slot) (values_of file (slots ++ slot ∷ []))) old new before text

-- the slots that repeat are counted
abbrev pub PlaceCounts : CodeFile → Repairer → Repairer → Slot → Counts → Counts → Result (Result (Unit {0}) RepairEnd) Failed → Type 0
PlaceCounts file s s' slot counts counts' (Ok (Ok u)) =
    IsSet file s' counts'.missed × (s'.m ≡ s.m) × (counts'.strangers ≡ counts.strangers)
    × (((slot.number < s.passed) × (counts'.repeats ≡ counts.repeats + 1)) ⊎ ((s.passed ≤ slot.number) × (counts'.repeats ≡ counts.repeats)))
PlaceCounts file s s' slot counts counts' (Ok (Err fault)) = fault ≡ Memory → ⊥
PlaceCounts file s s' slot counts counts' (Err e) = Unit {0}

-- ---- what is kept from one record to the next

-- what is kept of the counts and the repairer goes on: no slot came where there is none
abbrev pub IsGoing : CodeFile → Option Repairer → Counts → Type 0
IsGoing file None counts = counts.missed ≡ 0
IsGoing file (Some s) counts = IsSet file s counts.missed

-- nothing is counted
abbrev pub no_counts : Counts
no_counts = record { missed = 0; strangers = 0; repeats = 0 }

-- no more was counted than so many records have
pub record AreFew (index : ℕ) (counts : Counts) : Type 0 where
  pub strangers : counts.strangers ≤ index
  pub repeats : counts.repeats ≤ index

-- after these slots, none of which is refused; the symbols of all have as many bytes
abbrev pub Keeps : CodeFile → List Slot → Option Repairer → ℕ → List ℕ → Type 0
Keeps file slots None missed text = (slots ≡ []) × (text ≡ [])
Keeps file slots (Some s) missed text = Rests file slots s missed text × (width_in slots ≡ s.m) × (0 < length slots)

-- these records came, none of which is refused
pub record Knows (file : CodeFile) (records : List Record) (kept : Option Repairer) (counts : Counts) : Type 0 where
  pub accepted : first_refused file records ≡ None
  pub keeps : Keeps file (slots_in file records) kept counts.missed (values_text (values_so_far file records))
  pub strangers : counts.strangers ≡ count_by (λ e. is_stranger (read_as file e)) records
  pub repeats : length (slots_in file records) ≡ length (taken_of file (slots_in file records)) + counts.repeats

-- ---- a slot, where a repairer may not be there yet

-- it goes on after what came before, and its symbols have as many bytes as those of a slot that comes
abbrev pub Resumes : CodeFile → Option Repairer → ℕ → ℕ → Repairer → Type 0
Resumes file kept missed m s =
    (slots : List Slot) (text : List ℕ) (one : Slot) → one.m ≡ m → Keeps file slots kept missed text → Rests file slots s missed text × (width_in (slots ++ one ∷ []) ≡ s.m)

-- what a slot answers; memory may run out where it is the first
abbrev pub ComesIn : CodeFile → List Slot → Slot → Option Repairer → Told → Told → List ℕ → List ℕ → ℕ → List ℕ → Result (Result (Unit {0}) RepairEnd) Failed → Type 0
ComesIn file slots slot kept' old new before after missed text (Ok (Ok u)) =
    (slot_refusal file slots slot ≡ None)
    × ((more : List ℕ) × GivesMore old new more before after × Keeps file (slots ++ slot ∷ []) kept' missed (text ++ more))
ComesIn file slots slot kept' old new before after missed text (Ok (Err Memory)) = (slots ≡ []) × GivesMore old new [] before after
ComesIn file slots slot kept' old new before after missed text (Ok (Err fault)) =
    IsRefused (slot_refusal file slots slot) old new before after text fault
ComesIn file slots slot kept' old new before after missed text (Err e) =
    FallsShort (due_text (slot_refusal file slots slot) (values_of file (slots ++ slot ∷ []))) old new before text

-- a slot repeats or it doesn't, by the slots that were taken before it
abbrev pub CountsSlot : CodeFile → Slot → List Slot → Counts → Counts → Type 0
CountsSlot file slot slots counts counts' =
    ((slot.number < one_past (taken_of file slots)) × (counts'.repeats ≡ counts.repeats + 1))
    ⊎ ((one_past (taken_of file slots) ≤ slot.number) × (counts'.repeats ≡ counts.repeats))

abbrev pub ComesCounts : CodeFile → Slot → Option Repairer → Option Repairer → Counts → Counts → Result (Result (Unit {0}) RepairEnd) Failed → Type 0
ComesCounts file slot kept kept' counts counts' (Ok (Ok u)) =
    IsGoing file kept' counts' × (counts'.strangers ≡ counts.strangers) × (counts'.repeats ≤ counts.repeats + 1)
    × ((slots : List Slot) (text : List ℕ) → Keeps file slots kept counts.missed text → CountsSlot file slot slots counts counts')
ComesCounts file slot kept kept' counts counts' (Ok (Err fault)) = Unit {0}
ComesCounts file slot kept kept' counts counts' (Err e) = Unit {0}

-- ---- records

-- what is due once these records came and then this one: all that is put out, up to a refusal
abbrev pub due_after : CodeFile → List Record → Record → List ℕ
due_after file records e = due_text (refusal file (length records) (slots_in file records) e) (values_so_far file (records ++ e ∷ []))

-- What a record answers behind these, with the bytes that wait.
abbrev pub RecordGives : CodeFile → List Record → Record → Told → Told → List ℕ → List ℕ → Option Repairer → Counts → Result (Result (Unit {0}) RepairEnd) Failed → Type 0
RecordGives file records e old new before after kept' counts' (Ok (Ok u)) =
    Knows file (records ++ e ∷ []) kept' counts'
    × ((more : List ℕ) × GivesMore old new more before after × (values_text (values_so_far file (records ++ e ∷ [])) ≡ values_text (values_so_far file records) ++ more))
RecordGives file records e old new before after kept' counts' (Ok (Err Memory)) = (values_so_far file records ≡ []) × GivesMore old new [] before after
RecordGives file records e old new before after kept' counts' (Ok (Err fault)) =
    IsRefused (refusal file (length records) (slots_in file records) e) old new before after (values_text (values_so_far file records)) fault
RecordGives file records e old new before after kept' counts' (Err u) =
    FallsShort (due_after file records e) old new before (values_text (values_so_far file records))

abbrev pub RecordCounts : CodeFile → ℕ → Option Repairer → Counts → Result (Result (Unit {0}) RepairEnd) Failed → Type 0
RecordCounts file index kept' counts' (Ok (Ok u)) = IsGoing file kept' counts' × AreFew (index + 1) counts'
RecordCounts file index kept' counts' (Ok (Err fault)) = Unit {0}
RecordCounts file index kept' counts' (Err u) = Unit {0}

-- ---- reading and repairing

-- a record was read, and what is due then was written
pub record TakesRecord (file : CodeFile) (records : List Record) (old new : Told) (kept' : Option Repairer) (counts' : Counts) : Type 0 where
  pub next : Record
  pub fits : IsRecord next
  pub more : List ℕ
  pub moves : Moves old new (record_bytes next) more
  pub knows : Knows file (records ++ next ∷ []) kept' counts'
  pub parts : values_text (values_so_far file (records ++ next ∷ [])) ≡ values_text (values_so_far file records) ++ more

-- a record was read, and a write failed within what is due then
pub record LosesRecord (file : CodeFile) (records : List Record) (old new : Told) : Type 0 where
  pub next : Record
  pub fits : IsRecord next
  pub put : List ℕ
  pub moves : Moves old new (record_bytes next) put
  pub short : IsProperPrefix (values_text (values_so_far file records) ++ put) (due_after file records next)
  pub rose : Rose old.write_faults new.write_faults

-- the first slot came, and there was no memory
pub record LacksMemory (file : CodeFile) (records : List Record) (old new : Told) : Type 0 where
  pub next : Record
  pub fits : IsRecord next
  pub moves : Moves old new (record_bytes next) []
  pub none : values_so_far file records ≡ []

-- a record was read and is refused, and what is due then was written
pub record RefusesRecord (file : CodeFile) (records : List Record) (old new : Told) (fault : RepairEnd) : Type 0 where
  pub next : Record
  pub fits : IsRecord next
  pub refused : Refusal
  pub is_why : refusal file (length records) (slots_in file records) next ≡ Some refused
  pub is_fault : refused.fault ≡ fault
  pub more : List ℕ
  pub moves : Moves old new (record_bytes next) more
  pub is_text : values_text refused.values ≡ values_text (values_so_far file records) ++ more

-- the reading of a record stopped
pub record StopsReading (index : ℕ) (old new : Told) (fault : DumpFault) : Type 0 where
  pub tail : List ℕ
  pub moves : Moves old new tail []
  pub at : StopsAt index old new tail fault

-- why no record was taken behind these
abbrev pub HaltsAt : CodeFile → List Record → Told → Told → RepairEnd → Type 0
HaltsAt file records old new (Dump fault) = StopsReading (length records) old new fault
HaltsAt file records old new Write = LosesRecord file records old new
HaltsAt file records old new Memory = LacksMemory file records old new
HaltsAt file records old new fault = RefusesRecord file records old new fault

-- what taking a record answers: true where it was taken, false at the end of the input
abbrev pub TakeGives : CodeFile → List Record → Told → Told → Option Repairer → Option Repairer → Counts → Counts → Result Bool RepairEnd → Type 0
TakeGives file records old new kept kept' counts counts' (Ok true) = TakesRecord file records old new kept' counts'
TakeGives file records old new kept kept' counts counts' (Ok false) = Moves old new [] [] × IsAtEnd new.left × (kept' ≡ kept) × (counts' ≡ counts)
TakeGives file records old new kept kept' counts counts' (Err fault) = HaltsAt file records old new fault

abbrev pub TakeCounts : CodeFile → ℕ → Option Repairer → Counts → Result Bool RepairEnd → Type 0
TakeCounts file index kept' counts' (Ok true) = IsGoing file kept' counts' × AreFew (index + 1) counts'
TakeCounts file index kept' counts' (Ok false) = IsGoing file kept' counts' × AreFew index counts'
TakeCounts file index kept' counts' (Err fault) = Unit {0}

-- ---- many records

-- at some moment between these two the first i of these records had been taken, and what is due then was written
pub record Stood (file : CodeFile) (records : List Record) (i : ℕ) (old new : Told) : Type 0 where
  pub mid : Told
  pub before : Moves old mid (records_bytes (take i records)) (values_text (values_so_far file (take i records)))
  pub taken : List ℕ
  pub put : List ℕ
  pub after : Moves mid new taken put

-- these records were taken, none of which is refused, and what is due then was written, at each of them before the next
pub record Reached (file : CodeFile) (old new : Told) (records : List Record) (kept : Option Repairer) (counts : Counts) : Type 0 where
  pub fit : AllByRecursion IsRecord records
  pub knows : Knows file records kept counts
  pub moves : Moves old new (records_bytes records) (values_text (values_so_far file records))
  pub stood : (i : ℕ) → i ≤ length records → Stood file records i old new

-- all were taken
pub record TakesAll (file : CodeFile) (old new : Told) (kept : Option Repairer) (counts : Counts) : Type 0 where
  pub records : List Record
  pub reached : Reached file old new records kept counts
  pub end : IsAtEnd new.left

-- some were taken, and no more behind them
pub record HaltsAfter (file : CodeFile) (old new : Told) (fault : RepairEnd) : Type 0 where
  pub records : List Record
  pub mid : Told
  pub kept : Option Repairer
  pub counts : Counts
  pub reached : Reached file old mid records kept counts
  pub at : HaltsAt file records mid new fault

-- what taking the records behind a preamble answers
abbrev pub RecordsGive : CodeFile → Told → Told → Option Repairer → Counts → Result (Unit {0}) RepairEnd → Type 0
RecordsGive file old new kept counts (Ok u) = TakesAll file old new kept counts
RecordsGive file old new kept counts (Err fault) = HaltsAfter file old new fault

-- ---- the last slots

-- no more was missed than was put out
abbrev pub IsFewOf : Option Repairer → ℕ → Type 0
IsFewOf None missed = Unit {0}
IsFewOf (Some s) missed = missed ≤ s.next

-- the last of these slots were put out behind a text: none is bad, and this is the known end
pub record GivesLeft (file : CodeFile) (slots : List Slot) (old new : Told) (text : List ℕ) (missed end : ℕ) : Type 0 where
  pub more : List ℕ
  pub moves : Moves old new [] more
  pub left : new.left ≡ old.left
  pub good : bad_among (last_values file slots) ≡ None
  pub parts : values_text (last_values file slots) ≡ text ++ more
  pub end_is : end ≡ known_end (taken_of file slots)
  pub counted : missed ≡ missed_of file slots

-- or one is bad
pub record RefusesLeft (file : CodeFile) (slots : List Slot) (old new : Told) (text : List ℕ) (fault : RepairEnd) : Type 0 where
  pub more : List ℕ
  pub moves : Moves old new [] more
  pub left : new.left ≡ old.left
  pub refused : Refusal
  pub is_why : bad_among (last_values file slots) ≡ Some refused
  pub is_fault : refused.fault ≡ fault
  pub parts : values_text refused.values ≡ text ++ more

-- or a write failed within what is due then
pub record LosesLeft (file : CodeFile) (slots : List Slot) (old new : Told) (text : List ℕ) : Type 0 where
  pub put : List ℕ
  pub moves : Moves old new [] put
  pub left : new.left ≡ old.left
  pub short : IsProperPrefix (text ++ put) (due_text (bad_among (last_values file slots)) (last_values file slots))
  pub rose : Rose old.write_faults new.write_faults

-- what putting out the last of these slots answers
abbrev pub LeftGives : CodeFile → List Slot → Told → Told → List ℕ → ℕ → Result ℕ RepairEnd → Type 0
LeftGives file slots old new text missed (Ok end) = GivesLeft file slots old new text missed end
LeftGives file slots old new text missed (Err Write) = LosesLeft file slots old new text
LeftGives file slots old new text missed (Err (BadBlock t)) = RefusesLeft file slots old new text (BadBlock t)
LeftGives file slots old new text missed (Err fault) = ⊥

-- the last slots were put out, and none is bad
pub record GivesLast (file : CodeFile) (records : List Record) (old new : Told) (answer : Repaired) : Type 0 where
  pub more : List ℕ
  pub moves : Moves old new [] more
  pub left : new.left ≡ old.left
  pub good : bad_among (last_values file (slots_in file records)) ≡ None
  pub parts : values_text (last_values file (slots_in file records)) ≡ values_text (values_so_far file records) ++ more
  pub answered : answer ≡ numbers file records

-- or one is bad
pub record RefusesLast (file : CodeFile) (records : List Record) (old new : Told) (fault : RepairEnd) : Type 0 where
  pub more : List ℕ
  pub moves : Moves old new [] more
  pub left : new.left ≡ old.left
  pub refused : Refusal
  pub is_why : bad_among (last_values file (slots_in file records)) ≡ Some refused
  pub is_fault : refused.fault ≡ fault
  pub parts : values_text refused.values ≡ values_text (values_so_far file records) ++ more

-- what is due at the end of the input
abbrev pub last_due : CodeFile → List Record → List ℕ
last_due file records = due_text (bad_among (last_values file (slots_in file records))) (last_values file (slots_in file records))

-- or a write failed within what is due then
pub record LosesLast (file : CodeFile) (records : List Record) (old new : Told) : Type 0 where
  pub put : List ℕ
  pub moves : Moves old new [] put
  pub left : new.left ≡ old.left
  pub short : IsProperPrefix (values_text (values_so_far file records) ++ put) (last_due file records)
  pub rose : Rose old.write_faults new.write_faults

-- what putting out the last slots answers
abbrev pub LastGives : CodeFile → List Record → Told → Told → Result Repaired RepairEnd → Type 0
LastGives file records old new (Ok answer) = GivesLast file records old new answer
LastGives file records old new (Err Write) = LosesLast file records old new
LastGives file records old new (Err (BadBlock t)) = RefusesLast file records old new (BadBlock t)
LastGives file records old new (Err fault) = ⊥

-- all records behind a preamble were taken, and then the last slots put out
pub record EndsWith (file : CodeFile) (old new : Told) (result : Result Repaired RepairEnd) : Type 0 where
  pub mid : Told
  pub kept : Option Repairer
  pub counts : Counts
  pub records : List Record
  pub reached : Reached file old mid records kept counts
  pub end : IsAtEnd mid.left
  pub last : LastGives file records mid new result

-- what repairing behind a preamble answers
abbrev pub RestGives : CodeFile → Told → Told → Result Repaired RepairEnd → Type 0
RestGives file old new (Ok answer) = EndsWith file old new (Ok answer)
RestGives file old new (Err fault) = HaltsAfter file old new fault ⊎ EndsWith file old new (Err fault)

-- the fault of repairing where reading a preamble had this one
abbrev pub fault_of : DumpFault → RepairEnd
fault_of NoRoom = Memory
fault_of fault = Dump fault
