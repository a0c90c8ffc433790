use Rattle.sc_repair.specs.Sum.{AreColumns}
use Rattle.sc_repair.proofs.sum.cols_of.Given as goal

abbrev pub invariant-loop-c : goal.invariant-loop-c
invariant-loop-c l = AreColumns l.row l.c l.cols.items
