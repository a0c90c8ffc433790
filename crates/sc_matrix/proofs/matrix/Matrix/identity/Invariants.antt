use Rattle.std.proofs.Common.{◌≡◌, ◌<◌, ◌≤◌, ℕ, replicate}
use Rattle.sc_matrix.specs.Vector.{unit_vector}
use Rattle.sc_matrix.specs.Matrix.{row, row_count}
use Rattle.sc_matrix.proofs.matrix.Matrix.identity.Given as goal

abbrev pub invariant-loop-i : goal.invariant-loop-i
invariant-loop-i g l =
    record {
      count : row_count l.m ≡ l.n;
      cols : l.m.cols ≡ l.n;
      done : (k : ℕ) → k < l.i → row l.m k ≡ unit_vector g.F.Field.zero g.F.Field.one l.n k;
      rest : (k : ℕ) → l.i ≤ k → k < l.n → row l.m k ≡ replicate l.n g.F.Field.zero;
    }
