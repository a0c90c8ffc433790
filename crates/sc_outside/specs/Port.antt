-- What a port tells of itself, and what its calls do to that.
use Rattle.std.specs.Prelude.{◌≡◌, ℕ, ◌<◌, ◌≤◌, List, [], length, take, Option, Result, Ok, Err}
use Rattle.std.specs.Io.KnownBytes.{Consumes, Appends, Keeps, IsAtEnd}
use Rattle.sc_outside.specs.declared.journal.Move.{Move}
use Rattle.sc_outside.specs.declared.journal.Move.TheVariants.{Read, Written}
use Rattle.sc_outside.specs.declared.error.Failed.{Failed}
use Rattle.sc_outside.specs.Faults.{Rose}
use Rattle.sc_outside.specs.Journal.{LogsOne, Logs}

-- What a port tells: the bytes that can still be read, the bytes that were written, its journal (each `None` where
-- the port doesn't tell it), and how often a read and a write failed.
pub record Told : Type 0 where
  pub left : Option (List ℕ)
  pub given : Option (List ℕ)
  pub journal : Option (List Move)
  pub read_faults : ℕ
  pub write_faults : ℕ

-- A read moved the first n bytes of a buffer out of what is left, and none only where nothing is left.
pub record MovesIn (old new : Told) (n : ℕ) (buf : List ℕ) : Type 0 where
  pub bound : n ≤ length buf
  pub left : Consumes old.left new.left (take n buf)
  pub end : n ≡ 0 → IsAtEnd new.left
  pub given : new.given ≡ old.given
  pub journal : LogsOne old.journal new.journal (Read n)
  pub read_faults : new.read_faults ≡ old.read_faults
  pub write_faults : new.write_faults ≡ old.write_faults

-- A write appended the first n bytes of a piece to what is given, at least one.
pub record MovesOut (old new : Told) (n : ℕ) (piece : List ℕ) : Type 0 where
  pub some : 0 < n
  pub bound : n ≤ length piece
  pub given : Appends old.given new.given (take n piece)
  pub left : new.left ≡ old.left
  pub journal : LogsOne old.journal new.journal (Written n)
  pub write_faults : new.write_faults ≡ old.write_faults
  pub read_faults : new.read_faults ≡ old.read_faults

-- A read failed, and that was counted. Nothing was moved.
pub record ReadFails (old new : Told) : Type 0 where
  pub left : Keeps old.left new.left
  pub given : new.given ≡ old.given
  pub journal : new.journal ≡ old.journal
  pub rose : Rose old.read_faults new.read_faults
  pub write_faults : new.write_faults ≡ old.write_faults

-- A write failed, and that was counted. Nothing was moved.
pub record WriteFails (old new : Told) : Type 0 where
  pub given : Keeps old.given new.given
  pub left : new.left ≡ old.left
  pub journal : new.journal ≡ old.journal
  pub rose : Rose old.write_faults new.write_faults
  pub read_faults : new.read_faults ≡ old.read_faults

-- what a read answers
abbrev pub ReadGives : Told → Told → List ℕ → Result ℕ Failed → Type 0
ReadGives old new buf (Ok n) = MovesIn old new n buf
ReadGives old new buf (Err e) = ReadFails old new

-- what a write answers
abbrev pub WriteGives : Told → Told → List ℕ → Result ℕ Failed → Type 0
WriteGives old new piece (Ok n) = MovesOut old new n piece
WriteGives old new piece (Err e) = WriteFails old new

-- Between two moments of a port these bytes were taken and these were given. The counts of faults haven't fallen.
pub record Moves (old new : Told) (taken put : List ℕ) : Type 0 where
  pub left : Consumes old.left new.left taken
  pub given : Appends old.given new.given put
  pub journal : Logs old.journal new.journal (length taken) (length put)
  pub read_faults : old.read_faults ≤ new.read_faults
  pub write_faults : old.write_faults ≤ new.write_faults

-- Reads took these bytes. Nothing was written, and no write failed.
pub record Takes (old new : Told) (taken : List ℕ) : Type 0 where
  pub moves : Moves old new taken []
  pub given : new.given ≡ old.given
  pub write_faults : new.write_faults ≡ old.write_faults

-- Writes gave these bytes. Nothing was read, and no read failed.
pub record Puts (old new : Told) (put : List ℕ) : Type 0 where
  pub moves : Moves old new [] put
  pub left : new.left ≡ old.left
  pub read_faults : new.read_faults ≡ old.read_faults
