use Rattle.std.proofs.Common.{◌≡◌, ◌<◌, ℕ, true, false, get_or}
use Rattle.sc_repair.proofs.columns.are_settled.Given as goal

abbrev pub invariant-loop-c : goal.invariant-loop-c
invariant-loop-c l = l.all ≡ true → (c : ℕ) → c < l.c → get_or l.whole c false ≡ false → get_or l.free c false ≡ true
