-- A buffer that begins with the bytes of a record, and what filling it answers.
use Rattle.std.specs.Prelude.{◌≡◌, ℕ, ◌+◌, ◌-◌, ◌<◌, ◌≤◌, Bool, true, false, List, length, take, drop, Result, Ok, Err}
use Rattle.std.specs.Io.KnownBytes.{IsAtEnd}
use Rattle.sc_outside.specs.declared.error.Failed.{Failed}
use Rattle.sc_outside.specs.Faults.{Rose}
use Rattle.sc_outside.specs.Port.{Told, Takes}
use Rattle.sc_rtpdump.specs.declared.head.Head.{Head}
use Rattle.sc_rtpdump.specs.Preamble.{TakesSome}
use Rattle.sc_rtpdump.specs.Record.{Record, IsRecord, empty_record, record_bytes}

-- the record that the first len bytes spell, of which the fields are known
abbrev pub record_in : ℕ → ℕ → ℕ → List ℕ → Record
record_in plen offset len bytes = record { plen = plen; offset = offset; body = take (len - 8) (drop 8 bytes) }

-- the buffer has room for every record, and its first len bytes are that one
pub record HoldsRecord (plen offset len : ℕ) (bytes : List ℕ) : Type 0 where
  pub room : length bytes ≡ 65535
  pub head : 8 ≤ len
  pub bound : len ≤ 65535
  pub spelled : take len bytes ≡ record_bytes (record_in plen offset len bytes)
  pub fits : IsRecord (record_in plen offset len bytes)

-- What reading a body answers, where this is what stands in its place then: true with the body, exactly whose bytes were
-- taken, and false where the input ends before.
abbrev pub BodyGives : Told → Told → List ℕ → Result Bool Failed → Type 0
BodyGives old new body (Ok true) = Takes old new body
BodyGives old new body (Ok false) = TakesSome old new (λ bytes. length bytes < length body) × IsAtEnd new.left
BodyGives old new body (Err e) = TakesSome old new (λ bytes. length bytes < length body) × Rose old.read_faults new.read_faults

-- What reading a record behind its head answers, and what the record is then: true with the record that the head and the
-- body spell, false where the input ends before. At all but true it is empty.
abbrev pub FillGives : Told → Told → Head → Record → Result Bool Failed → Type 0
FillGives old new head rec (Ok true) =
    IsRecord rec × Takes old new rec.body × (rec ≡ record { plen = head.plen; offset = head.offset; body = rec.body }) × (8 + length rec.body ≡ head.len)
FillGives old new head rec (Ok false) =
    (rec ≡ empty_record) × TakesSome old new (λ bytes. 8 + length bytes < head.len) × IsAtEnd new.left
FillGives old new head rec (Err e) =
    (rec ≡ empty_record) × TakesSome old new (λ bytes. 8 + length bytes < head.len) × Rose old.read_faults new.read_faults
