use Rattle.std.proofs.Common.{◌≡◌, ◌≤◌}
use Rattle.sc_echelon.specs.Echelon.{on_below}
use Rattle.sc_echelon.proofs.reduced.count_on.Given as goal

abbrev pub invariant-loop-k : goal.invariant-loop-k
invariant-loop-k l = record { value : l.count ≡ on_below l.flags l.k; small : l.count ≤ l.k }
