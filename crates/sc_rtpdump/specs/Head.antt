-- What reading the eight bytes before a record's body answers, and what the reading of a record stops at.
use Rattle.std.specs.Prelude.{◌≡◌, ℕ, ◌^◌, ◌<◌, ◌≤◌, Option, Some, None, List, [], length, Result, Ok, Err}
use Rattle.std.specs.Io.KnownBytes.{IsAtEnd}
use Rattle.sc_outside.specs.Faults.{Rose}
use Rattle.sc_outside.specs.Port.{Told, Takes}
use Rattle.sc_rtpdump.specs.declared.fault.DumpFault.{DumpFault}
use Rattle.sc_rtpdump.specs.declared.fault.DumpFault.TheVariants.{Preamble, RecordHead, RecordLength, Truncated, Read, Memory}
use Rattle.sc_rtpdump.specs.declared.head.Head.{Head}
use Rattle.sc_rtpdump.specs.Record.{head_bytes, length_field}

-- the numbers of a head fit their fields
abbrev pub IsHead : Head → Type 0
IsHead head = (head.len < 2 ^ 16) × (head.plen < 2 ^ 16) × (head.offset < 2 ^ 32)

-- one to seven bytes
abbrev pub IsPartHead : List ℕ → Type 0
IsPartHead bytes = (0 < length bytes) × (length bytes < 8)

-- the eight bytes before a body, with a length below 8
abbrev pub IsHeadTooShort : List ℕ → Type 0
IsHeadTooShort bytes = (length bytes ≡ 8) × (length_field bytes < 8)

-- eight bytes or more, but fewer than their length says
abbrev pub IsPartBody : List ℕ → Type 0
IsPartBody bytes = (8 ≤ length bytes) × (length bytes < length_field bytes)

-- less than a whole record: part of the eight bytes before a body, or all of them and part of the body
abbrev pub IsBelowRecord : List ℕ → Type 0
IsBelowRecord bytes = 8 ≤ length bytes → length bytes < length_field bytes

-- What the reading of the record of this number stopped at, when these bytes of it had been taken: one to seven bytes
-- that are left, a length below 8, the input's end inside the body, or a failed read.
abbrev pub StopsAt : ℕ → Told → Told → List ℕ → DumpFault → Type 0
StopsAt index old new tail (RecordHead i) = (i ≡ index) × IsPartHead tail × IsAtEnd new.left
StopsAt index old new tail (RecordLength i) = (i ≡ index) × IsHeadTooShort tail
StopsAt index old new tail (Truncated i) = (i ≡ index) × IsPartBody tail × IsAtEnd new.left
StopsAt index old new tail Read = IsBelowRecord tail × Rose old.read_faults new.read_faults
StopsAt index old new tail Preamble = ⊥
StopsAt index old new tail Memory = ⊥

-- these bytes were taken of a record, and then its reading stopped
pub record Stops (index : ℕ) (old new : Told) (fault : DumpFault) : Type 0 where
  pub tail : List ℕ
  pub takes : Takes old new tail
  pub at : StopsAt index old new tail fault

-- What reading the head of the record of this number answers: the head, exactly whose bytes were taken, with a length of
-- 8 or more, and `None` at the end of the input.
abbrev pub HeadGives : ℕ → Told → Told → Result (Option Head) DumpFault → Type 0
HeadGives index old new (Ok (Some head)) = (8 ≤ head.len) × IsHead head × Takes old new (head_bytes head.len head.plen head.offset)
HeadGives index old new (Ok None) = Takes old new [] × IsAtEnd new.left
HeadGives index old new (Err fault) = Stops index old new fault
