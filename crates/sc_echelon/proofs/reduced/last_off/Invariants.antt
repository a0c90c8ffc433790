use Rattle.std.proofs.Common.{◌≡◌, ℕ, ◌<◌, true, false, get_or, MatchOption}
use Rattle.sc_echelon.specs.Echelon.{IsLastOff}
use Rattle.sc_echelon.proofs.reduced.last_off.Given as goal

abbrev pub invariant-loop-i : goal.invariant-loop-i
invariant-loop-i l = MatchOption l.last ((i : ℕ) → i < l.i → get_or l.flags i false ≡ true) (IsLastOff l.flags l.i)
