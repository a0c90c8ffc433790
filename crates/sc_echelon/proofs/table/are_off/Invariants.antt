use Rattle.std.proofs.Common.{◌≡◌, ℕ, ◌<◌, ◌≤◌, false, get_or}
use Rattle.sc_echelon.proofs.table.are_off.Given as goal

abbrev pub invariant-loop-i : goal.invariant-loop-i
invariant-loop-i l = l.any ≡ false → (j : ℕ) → l.at ≤ j → j < l.i → get_or l.flags j false ≡ false
