-- A sink in memory: all that its calls depend on and change.
use Rattle.std.specs.Prelude.{◌≡◌, ℕ, ◌-◌, ◌^◌, ◌≤◌, ◌==◌, ◌||◌, min, Bool, true, false, List, ◌++◌, length, take, nat_le, Some, Result, Ok, Err}
use Rattle.std.specs.List.{list_any}
use Rattle.sc_outside.specs.declared.error.Failed.{Failed}
use Rattle.sc_outside.specs.Faults.{counted}
use Rattle.sc_outside.specs.Sink.{SinkTold}

-- What a sink in memory has: the bytes given, room for so many of them, the calls that fail, the number of calls so
-- far, and the faults.
pub record SinkState : Type 0 where
  pub given : List ℕ
  pub room : ℕ
  pub fails : List ℕ
  pub calls : ℕ
  pub faults : ℕ

abbrev pub told_by_sink : SinkState → SinkTold
told_by_sink s = record { given = Some s.given; faults = s.faults }

-- the call at hand is one that fails, or no room is left
abbrev pub is_refused_by_sink : SinkState → Bool
is_refused_by_sink s = list_any (λ call. call == s.calls) s.fails || nat_le s.room (length s.given)

-- what a write of these bytes answers, and what it leaves
abbrev pub SinksAs : SinkState → SinkState → List ℕ → Result ℕ Failed → Type 0
SinksAs old new piece (Ok n) =
    (is_refused_by_sink old ≡ false) × (n ≡ min (length piece) (old.room - length old.given))
    × (new ≡ record old { given = old.given ++ take n piece; calls = counted old.calls })
SinksAs old new piece (Err e) =
    (is_refused_by_sink old ≡ true) × (new ≡ record old { calls = counted old.calls; faults = counted old.faults })

-- what is known of each sink in memory
pub record IsMemorySink (s : SinkState) : Type 0 where
  pub room : length s.given ≤ s.room
  pub faults : s.faults ≤ 2 ^ 64 - 1
