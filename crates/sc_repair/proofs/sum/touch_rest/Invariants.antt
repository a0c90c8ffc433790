use Rattle.std.proofs.Common.{◌≡◌, ◌+◌, ◌<◌, ℕ, true, false, length, get_or}
use Rattle.sc_repair.proofs.sum.touch_rest.Given as goal

abbrev pub invariant-loop-i : goal.invariant-loop-i
invariant-loop-i l =
    (length l.free ≡ length l.fn.free)
    × ((c : ℕ) → get_or l.free c false ≡ true → get_or l.fn.free c false ≡ true)
    × ((x : ℕ) → x < l.i → get_or l.flags (l.first + get_or l.cols x 0) false ≡ false → get_or l.free (l.first + get_or l.cols x 0) false ≡ false)
    × ((c : ℕ) → get_or l.flags c false ≡ true → get_or l.fn.free c false ≡ true → get_or l.free c false ≡ true)
