use Rattle.std.proofs.Common.{◌≡◌, ℕ, ◌<◌, length, get_or}
use Rattle.sc_echelon.specs.Echelon.{IsLeadingEntry}
use Rattle.sc_echelon.proofs.reduced.leading_vector.Given as goal

abbrev pub invariant-loop-i : goal.invariant-loop-i
invariant-loop-i g l = record {
  count : length l.vector.items ≡ l.i;
  entries : (k : ℕ) → k < l.i → IsLeadingEntry g.F.Field.zero g.F.Field.one g.F.Field.sub l.used l.rows l.col k (get_or l.vector.items k g.F.Field.zero);
}
