use Rattle.std.proofs.Common.{◌≡◌, ◌<◌, ℕ, length, get_or}
use Rattle.sc_repair.proofs.equations.clear_row.Given as goal

abbrev pub invariant-loop-c : goal.invariant-loop-c
invariant-loop-c l = (length l.row ≡ length l.fn.row) × ((c : ℕ) → c < l.c → get_or l.row c 0 ≡ 0)
