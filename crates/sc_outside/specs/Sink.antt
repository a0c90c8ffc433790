-- What a sink tells of itself, and what a write does to that.
use Rattle.std.specs.Prelude.{◌≡◌, ℕ, ◌<◌, ◌≤◌, List, length, take, Option, Result, Ok, Err}
use Rattle.std.specs.Io.KnownBytes.{Appends, Keeps}
use Rattle.sc_outside.specs.declared.error.Failed.{Failed}
use Rattle.sc_outside.specs.Faults.{Rose}

-- What a sink tells: the bytes that were written (`None` where it doesn't tell), and how often a write failed.
pub record SinkTold : Type 0 where
  pub given : Option (List ℕ)
  pub faults : ℕ

-- A write appended the first n bytes of a piece, at least one.
pub record SinkGrows (old new : SinkTold) (n : ℕ) (piece : List ℕ) : Type 0 where
  pub some : 0 < n
  pub bound : n ≤ length piece
  pub given : Appends old.given new.given (take n piece)
  pub faults : new.faults ≡ old.faults

-- A write failed, and that was counted. Nothing was moved.
pub record SinkFails (old new : SinkTold) : Type 0 where
  pub given : Keeps old.given new.given
  pub rose : Rose old.faults new.faults

-- what a write answers
abbrev pub SinkGives : SinkTold → SinkTold → List ℕ → Result ℕ Failed → Type 0
SinkGives old new piece (Ok n) = SinkGrows old new n piece
SinkGives old new piece (Err e) = SinkFails old new
