-- What reading until a buffer is full, and writing a whole piece, do to what a port or a sink tells.
use Rattle.std.specs.Prelude.{◌≡◌, ℕ, ◌<◌, ◌≤◌, List, ◌++◌, length, take}
use Rattle.std.specs.Io.KnownBytes.{Appends, IsAtEnd}
use Rattle.sc_outside.specs.Faults.{Rose}
use Rattle.sc_outside.specs.Port.{Told, Takes, Puts}
use Rattle.sc_outside.specs.Sink.{SinkTold}

-- The first n bytes of a buffer were taken. Where that isn't all of it, nothing is left. No read failed.
pub record FillsOrEnds (old new : Told) (n : ℕ) (buf : List ℕ) : Type 0 where
  pub bound : n ≤ length buf
  pub takes : Takes old new (take n buf)
  pub end : n < length buf → IsAtEnd new.left
  pub read_faults : new.read_faults ≡ old.read_faults

-- A read failed when fewer bytes than wanted had been taken.
pub record ReadFailed (old new : Told) (wanted : ℕ) : Type 0 where
  pub taken : List ℕ
  pub short : length taken < wanted
  pub takes : Takes old new taken
  pub rose : Rose old.read_faults new.read_faults

-- All of a piece was given. No write failed.
pub record PutsAll (old new : Told) (piece : List ℕ) : Type 0 where
  pub puts : Puts old new piece
  pub write_faults : new.write_faults ≡ old.write_faults

-- A write failed when a prefix of the piece that isn't the whole had been given.
pub record WriteFailed (old new : Told) (piece : List ℕ) : Type 0 where
  pub put : List ℕ
  pub rest : List ℕ
  pub parts : piece ≡ put ++ rest
  pub short : 0 < length rest
  pub puts : Puts old new put
  pub rose : Rose old.write_faults new.write_faults

-- A sink was given all of a piece. No write failed.
pub record SinkGets (old new : SinkTold) (piece : List ℕ) : Type 0 where
  pub given : Appends old.given new.given piece
  pub faults : new.faults ≡ old.faults

-- A write to a sink failed when a prefix of the piece that isn't the whole had been given.
pub record SinkFailed (old new : SinkTold) (piece : List ℕ) : Type 0 where
  pub put : List ℕ
  pub rest : List ℕ
  pub parts : piece ≡ put ++ rest
  pub short : 0 < length rest
  pub given : Appends old.given new.given put
  pub rose : Rose old.faults new.faults
