use Rattle.std.proofs.Common.{◌≡◌, ◌-◌, ◌≤◌, length}
use Rattle.sc_echelon.specs.Steps.{reduce}
use Rattle.sc_echelon.specs.Storage.{table_of}
use Rattle.sc_echelon.specs.Knowledge.{xor_bytes, act_bytes}
use Rattle.sc_echelon.proofs.table.clear_at_pivots.Given as goal

abbrev pub invariant-loop-k : goal.invariant-loop-k
invariant-loop-k g l = record {
  value : l.work ≡ reduce g.F.Field.zero g.F.Field.add g.F.Field.sub g.F.Field.mul xor_bytes (act_bytes g.F.Field.act) (table_of l.used l.rows) l.k l.fn.work;
  width : length l.work.coeffs ≡ length l.fn.work.coeffs;
  right : length l.work.right ≡ length l.fn.work.right;
  within : l.k ≤ length l.used;
}

abbrev pub decreases-loop-k : goal.decreases-loop-k
decreases-loop-k g l = length l.used - l.k
