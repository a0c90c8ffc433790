use Rattle.std.proofs.Common.{◌-◌, ◌≤◌}
use Rattle.sc_echelon.specs.Storage.{table_of, IsZeroOutside}
use Rattle.sc_echelon.proofs.table.first_touched.Given as goal

abbrev pub invariant-loop-k : goal.invariant-loop-k
invariant-loop-k g l = record {
  order : l.first ≤ l.k;
  within : l.k ≤ l.p;
  others : IsZeroOutside g.F.Field.zero l.k l.p l.p (table_of l.used l.rows);
}

abbrev pub decreases-loop-k : goal.decreases-loop-k
decreases-loop-k g l = l.p - l.k
