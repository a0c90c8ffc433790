use Rattle.std.proofs.Common.{◌≡◌, ◌+◌, ◌*◌, ◌++◌, map}
use Rattle.std.specs.List.{range_with_len}
use Rattle.sc_matrix.specs.Matrix.{row}
use Rattle.sc_check.proofs.span.push_units.Given as goal

abbrev pub invariant-loop-p : goal.invariant-loop-p
invariant-loop-p l = (l.rows.cols ≡ l.fn.rows.cols) × (l.rows.rows ≡ l.fn.rows.rows ++ map (λ p. row l.images (l.s * l.k + p)) (range_with_len 0 l.p))
