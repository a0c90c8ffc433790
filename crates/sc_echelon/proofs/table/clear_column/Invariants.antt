use Rattle.std.proofs.Common.{◌≡◌, ◌-◌, ◌<◌, ◌≤◌, true, false, length, get_or, All}
use Rattle.sc_echelon.specs.Steps.{clear_at}
use Rattle.sc_echelon.specs.Storage.{ChangedBelow}
use Rattle.sc_echelon.specs.Knowledge.{xor_bytes, act_bytes}
use Rattle.sc_echelon.proofs.table.clear_column.Given as goal

abbrev pub invariant-loop-k : goal.invariant-loop-k
invariant-loop-k g l = record {
  within : l.k ≤ l.end;
  on : l.k < l.end → get_or l.used l.k false ≡ true;
  changed : ChangedBelow (clear_at g.F.Field.zero g.F.Field.add g.F.Field.sub g.F.Field.mul xor_bytes (act_bytes g.F.Field.act) l.p l.by) l.used l.fn.rows l.k l.rows;
  widths : All (λ r. length r.coeffs ≡ length l.by.coeffs) l.rows;
  rights : All (λ r. length r.right ≡ length l.by.right) l.rows;
}

abbrev pub decreases-loop-k : goal.decreases-loop-k
decreases-loop-k g l = l.end - l.k
