use Rattle.std.proofs.Common.{◌≡◌, ℕ, ◌<◌, length, get_or}
use Rattle.sc_code.specs.Sum.{Sum, HasTerms}
use Rattle.sc_code.proofs.encoder.sums_of.Given as goal

abbrev pub invariant-loop-j : goal.invariant-loop-j
invariant-loop-j g l =
    (length l.sums.items ≡ l.j)
    × ((i : ℕ) (d : Sum g.row.F.Denot) → i < length l.sums.items → HasTerms g.F.Field.zero g.F.Field.act l.code l.width i (length l.code.lags) 0 (get_or l.sums.items i d))
