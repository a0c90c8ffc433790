use Rattle.std.proofs.Common.{◌≡◌, ℕ, ◌*◌, ◌<◌, length, get_or}
use Rattle.sc_field.proofs.multiplier.products.Given as goal

abbrev pub invariant-loop-k : goal.invariant-loop-k
invariant-loop-k g l = (length l.table ≡ 16) × ((k : ℕ) → k < l.k → get_or l.table k 0 ≡ g.F.Field.act l.c (l.step * k))
