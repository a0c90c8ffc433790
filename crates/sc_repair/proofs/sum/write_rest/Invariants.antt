use Rattle.std.proofs.Common.{length}
use Rattle.sc_repair.specs.Sum.{IsOpening}
use Rattle.sc_repair.proofs.sum.write_rest.Given as goal

abbrev pub invariant-loop-i : goal.invariant-loop-i
invariant-loop-i l = IsOpening (length l.fn.row) l.first l.own l.flags l.cols l.i l.row
