use Rattle.std.proofs.Common.{length}
use Rattle.sc_matrix.specs.Layout.{cut}
use Rattle.sc_repair.specs.Columns.{TakenOut}
use Rattle.sc_repair.proofs.columns.take_out.Given as goal

abbrev pub invariant-loop-c : goal.invariant-loop-c
invariant-loop-c l =
    TakenOut l.whole (cut (length l.fn.row) (length l.fn.sum) l.bytes) (length l.fn.sum) l.fn.row l.fn.sum l.c l.row l.sum
