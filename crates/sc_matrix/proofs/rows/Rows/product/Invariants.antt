use Rattle.std.proofs.Common.{◌≡◌, ◌<◌, ◌≤◌, ℕ, map, replicate, bit_xor}
use Rattle.sc_matrix.specs.Vector.{combination}
use Rattle.sc_matrix.specs.Matrix.{row, row_count}
use Rattle.sc_matrix.specs.Rows.{table}
use Rattle.sc_matrix.proofs.rows.Rows.product.Given as goal

abbrev pub invariant-loop-i : goal.invariant-loop-i
invariant-loop-i g l =
    record {
      count : row_count (table l.out) ≡ l.a.count;
      width : l.out.width ≡ l.b.width;
      done : (k : ℕ) → k < l.i → row (table l.out) k ≡ combination 0 bit_xor g.F.Field.act l.b.width (map g.F.Field.element (row (table l.a) k)) (table l.b).rows;
      rest : (k : ℕ) → l.i ≤ k → k < l.a.count → row (table l.out) k ≡ replicate l.b.width 0;
    }
