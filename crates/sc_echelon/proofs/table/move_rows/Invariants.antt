use Rattle.std.proofs.Common.{◌≡◌, ℕ, ◌-◌, ◌<◌, ◌≤◌, true, false, length, get_or, All}
use Rattle.sc_echelon.specs.Storage.{MovedBelow}
use Rattle.sc_echelon.proofs.table.move_rows.Given as goal

abbrev pub invariant-loop-k : goal.invariant-loop-k
invariant-loop-k g l = record {
  behind : l.count ≤ l.k;
  within : l.k ≤ length l.used;
  on : l.k < length l.used → get_or l.used l.k false ≡ true;
  moved : MovedBelow g.F.Field.zero l.count l.used l.fn.rows l.k l.rows;
  widths : All (λ r. length r.coeffs ≡ length l.used) l.rows;
  rights : (w : ℕ) → All (λ r. length r.right ≡ w) l.fn.rows → All (λ r. length r.right ≡ w) l.rows;
}

abbrev pub decreases-loop-k : goal.decreases-loop-k
decreases-loop-k g l = length l.used - l.k
