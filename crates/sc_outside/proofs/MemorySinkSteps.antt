-- What a write to a sink in memory does is what the trait asks.
use Rattle.std.proofs.Common.{ℕ, ◌<◌, List, length, Result, Ok, Err, ap, arith}
use Rattle.sc_outside.specs.declared.error.Failed.{Failed}
use Rattle.sc_outside.specs.Sink.{SinkGives}
use Rattle.sc_outside.specs.MemorySink.{SinkState, IsMemorySink, told_by_sink, SinksAs}
use Rattle.sc_outside.proofs.FaultsLaws.{Rose-counted}
use Rattle.sc_outside.proofs.RoomSteps.{room_left}

pub SinkGives-memory : (old new : SinkState) (piece : List ℕ) (r : Result ℕ Failed) → 0 < length piece → IsMemorySink old
    → SinksAs old new piece r → SinkGives (told_by_sink old) (told_by_sink new) piece r
SinkGives-memory old new piece (Ok n) some known h =
    let free : length old.given < old.room = room_left _ old.room (length old.given) h.0 in
    record { some = omega (arith, h.1, free); bound = omega (arith, h.1); given = ap (λ s. s.given) h.2; faults = ap (λ s. s.faults) h.2 }
SinkGives-memory old new piece (Err e) some known h = record {
  given = ap (λ s. s.given) h.1;
  rose = Rose-counted _ _ known.faults (ap (λ s. s.faults) h.1);
}

pub ruleset memory_sinks = (SinkGives-memory)
