use Rattle.std.proofs.Common.{◌≡◌, List, ℕ, ◌++◌, length}
use Rattle.sc_outside.specs.Port.{Puts}
use Rattle.sc_outside.proofs.whole.write_whole.Given as goal

-- the piece is what was given so far, and then what is left of it
abbrev pub invariant-loop-rest : goal.invariant-loop-rest
invariant-loop-rest g l =
    let told = g.P.Port.told in
    record {
      put : List ℕ;
      parts : l.piece ≡ put ++ l.rest;
      puts : Puts (told l.fn.port) (told l.port) put;
      write_faults : (told l.port).write_faults ≡ (told l.fn.port).write_faults;
    }

abbrev pub decreases-loop-rest : goal.decreases-loop-rest
decreases-loop-rest g l = length l.rest
