use Rattle.std.proofs.Common.{◌≡◌, List, ℕ, ◌++◌, length}
use Rattle.std.specs.Io.KnownBytes.{Appends}
use Rattle.sc_outside.proofs.whole.tell_whole.Given as goal

-- the piece is what was given so far, and then what is left of it
abbrev pub invariant-loop-rest : goal.invariant-loop-rest
invariant-loop-rest g l =
    let told = g.N.Sink.told in
    record {
      put : List ℕ;
      parts : l.piece ≡ put ++ l.rest;
      given : Appends (told l.fn.sink).given (told l.sink).given put;
      faults : (told l.sink).faults ≡ (told l.fn.sink).faults;
    }

abbrev pub decreases-loop-rest : goal.decreases-loop-rest
decreases-loop-rest g l = length l.rest
