-- What reading the next record answers.
use Rattle.std.specs.Prelude.{◌≡◌, ℕ, ◌+◌, ◌≤◌, Bool, true, false, List, [], length, Result, Ok, Err}
use Rattle.std.specs.Io.KnownBytes.{IsAtEnd}
use Rattle.sc_outside.specs.declared.error.Failed.{Failed}
use Rattle.sc_outside.specs.declared.pending.TheConstants.Pending.{ROOM}
use Rattle.sc_outside.specs.Port.{Told, Takes}
use Rattle.sc_rtpdump.specs.declared.fault.DumpFault.{DumpFault}
use Rattle.sc_rtpdump.specs.Head.{Stops}
use Rattle.sc_rtpdump.specs.Record.{Record, IsRecord, empty_record, record_bytes}
use Rattle.sc_rtpdump.specs.Thin.{Carries, Loses, StopsBehind}

-- What reading the record of this number answers, and what the record is afterwards. True comes with the next record,
-- exactly whose bytes were taken, and false at the end of the input. At all but true the record is empty.
abbrev pub NextGives : ℕ → Told → Told → Result Bool DumpFault → Record → Type 0
NextGives index old new (Ok true) rec = IsRecord rec × Takes old new (record_bytes rec)
NextGives index old new (Ok false) rec = (rec ≡ empty_record) × Takes old new [] × IsAtEnd new.left
NextGives index old new (Err fault) rec = (rec ≡ empty_record) × Stops index old new fault

-- What reading it answers while bytes wait. At true it was taken, and what waits leaves room for so many bytes; at false the
-- input had ended. At an outer `Err` a write failed.
abbrev pub NextBehind : ℕ → Told → Told → List ℕ → List ℕ → ℕ → Result (Result Bool DumpFault) Failed → Record → Type 0
NextBehind index old new before after room (Ok (Ok true)) rec =
    IsRecord rec × Carries old new (record_bytes rec) [] before after × (length after + room ≤ ROOM)
NextBehind index old new before after room (Ok (Ok false)) rec = Carries old new [] [] before after × IsAtEnd new.left
NextBehind index old new before after room (Ok (Err fault)) rec = StopsBehind index old new before after fault
NextBehind index old new before after room (Err e) rec = (tail : List ℕ) × (lacking : List ℕ) × Loses old new tail before lacking
