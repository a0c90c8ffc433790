use Rattle.std.proofs.Common.{◌≡◌, ◌+◌, ◌-◌, ◌*◌, ◌<◌, ℕ, length, get_or, leb, cond}
use Rattle.sc_code.specs.Code.{coefficient}
use Rattle.sc_repair.proofs.equations.write_parity_row.Given as goal

abbrev pub invariant-loop-p : goal.invariant-loop-p
invariant-loop-p l =
    (length l.row ≡ length l.fn.row)
    × ((q s : ℕ) → q < l.p → s < l.code.k → get_or l.row (q * l.code.k + s) 0 ≡ cond (leb q l.place) (coefficient 0 l.code (l.place - q) s l.j) 0)
