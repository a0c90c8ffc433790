use Rattle.std.proofs.Common.{◌≡◌, length, All}
use Rattle.sc_echelon.proofs.table.blank_rows.Given as goal

abbrev pub invariant-loop-k : goal.invariant-loop-k
invariant-loop-k g l = record {
  count : length l.rows.items ≡ l._k;
  widths : All (λ r. length r.coeffs ≡ l.cols) l.rows.items;
  rights : All (λ r. length r.right ≡ l.width) l.rows.items;
}
