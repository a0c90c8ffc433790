use Rattle.std.proofs.Common.{◌≡◌, ◌+◌, ◌-◌, ◌<◌, ℕ, length, get_or, leb, cond}
use Rattle.sc_code.specs.Code.{coefficient}
use Rattle.sc_repair.proofs.equations.write_place.Given as goal

abbrev pub invariant-loop-s : goal.invariant-loop-s
invariant-loop-s l =
    (length l.row ≡ length l.fn.row)
    × ((c : ℕ) → c < l.first → get_or l.row c 0 ≡ get_or l.fn.row c 0)
    × ((t : ℕ) → t < l.s → get_or l.row (l.first + t) 0 ≡ cond (leb l.p l.place) (coefficient 0 l.code (l.place - l.p) t l.j) 0)
