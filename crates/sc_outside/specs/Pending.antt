-- What the calls over bytes that wait to be written do to these bytes and to what a port tells. In each, `before` and
-- `after` are the bytes that wait before and after the call.
use Rattle.std.specs.Prelude.{◌≡◌, ℕ, ◌+◌, ◌<◌, ◌≤◌, Bool, true, false, List, [], ◌++◌, length, Result, Ok, Err}
use Rattle.std.specs.Io.KnownBytes.{IsAtEnd}
use Rattle.sc_outside.specs.declared.error.Failed.{Failed}
use Rattle.sc_outside.specs.Port.{Told, Takes}
use Rattle.sc_outside.specs.Whole.{ReadFailed, PutsAll, WriteFailed}

-- The next n bytes of a port were taken, and stand behind those that waited. No read failed.
pub record TakesBehind (before after : List ℕ) (old new : Told) (n : ℕ) : Type 0 where
  pub taken : List ℕ
  pub size : length taken ≡ n
  pub waits : after ≡ before ++ taken
  pub takes : Takes old new taken
  pub read_faults : new.read_faults ≡ old.read_faults

-- The port ended before it had n bytes. What waits is as it was. No read failed.
pub record EndsBefore (before after : List ℕ) (old new : Told) (n : ℕ) : Type 0 where
  pub taken : List ℕ
  pub short : length taken < n
  pub waits : after ≡ before
  pub takes : Takes old new taken
  pub end : IsAtEnd new.left
  pub read_faults : new.read_faults ≡ old.read_faults

-- what taking in the next n bytes answers: true where they were there, false where the port ended before
abbrev pub TakesIn : List ℕ → List ℕ → Told → Told → ℕ → Result Bool Failed → Type 0
TakesIn before after old new n (Ok true) = TakesBehind before after old new n
TakesIn before after old new n (Ok false) = EndsBefore before after old new n
TakesIn before after old new n (Err e) = (after ≡ before) × ReadFailed old new n

-- A write failed within the bytes that wait. They wait still, all of them.
pub record FlushFailed (before after : List ℕ) (old new : Told) : Type 0 where
  pub waits : after ≡ before
  pub failed : WriteFailed old new before

-- what a flush answers: all that waited was given, or a write failed
abbrev pub Flushes : {U : Type 0} → List ℕ → List ℕ → Told → Told → Result U Failed → Type 0
Flushes before after old new (Ok u) = (after ≡ []) × PutsAll old new before
Flushes before after old new (Err e) = FlushFailed before after old new

-- So many bytes wait at most that n more fit, and what waited before them was given. No write failed.
pub record HasWay (before after : List ℕ) (old new : Told) (n room : ℕ) : Type 0 where
  pub fits : length after + n ≤ room
  pub put : List ℕ
  pub parts : before ≡ put ++ after
  pub puts : PutsAll old new put

-- what making way for n more bytes answers
abbrev pub MakesWay : {U : Type 0} → List ℕ → List ℕ → Told → Told → ℕ → ℕ → Result U Failed → Type 0
MakesWay before after old new n room (Ok u) = HasWay before after old new n room
MakesWay before after old new n room (Err e) = FlushFailed before after old new
