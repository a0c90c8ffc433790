-- The rows so far are cleared, and the last one is as it was.
use Rattle.std.proofs.Common.{◌≡◌, ℕ, ◌<◌, bit_xor}
use Rattle.sc_field.specs.Gf256.{gf256_product}
use Rattle.sc_matrix.specs.Module.{IsByte}
use Rattle.sc_matrix.specs.Matrix.{IsMatrix, entry, row, row_count}
use Rattle.sc_matrix.specs.RowSpace.{HaveOneRowSpace}
use Rattle.sc_check.proofs.span.clear_rows.Given as goal

abbrev pub invariant-loop-i : goal.invariant-loop-i
invariant-loop-i l =
    HaveOneRowSpace IsByte 0 bit_xor gf256_product l.m l.fn.m × (row_count l.m ≡ row_count l.fn.m) × (row l.m l.last ≡ row l.fn.m l.last)
    × ((k : ℕ) → k < l.i → entry 0 l.m k l.c ≡ 0) × IsMatrix IsByte l.m × (l.m.cols ≡ l.fn.m.cols)
