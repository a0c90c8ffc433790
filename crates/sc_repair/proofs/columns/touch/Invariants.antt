use Rattle.std.proofs.Common.{◌≡◌, ◌<◌, ◌≤◌, ℕ, true, false, length, get_or}
use Rattle.sc_repair.proofs.columns.touch.Given as goal

abbrev pub invariant-loop-c : goal.invariant-loop-c
invariant-loop-c l =
    (length l.free ≡ length l.fn.free)
    × ((c : ℕ) → c < l.c → get_or l.free c false ≡ true → (get_or l.fn.free c false ≡ true) × (get_or l.row c 0 ≡ 0))
    × ((c : ℕ) → l.c ≤ c → get_or l.free c false ≡ get_or l.fn.free c false)
    × ((c : ℕ) → get_or l.fn.free c false ≡ true → get_or l.row c 0 ≡ 0 → get_or l.free c false ≡ true)
    × (l.touched ≡ false → (c : ℕ) → c < l.c → get_or l.row c 0 ≡ 0)
