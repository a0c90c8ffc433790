use Rattle.sc_repair.specs.Sum.{AreSums}
use Rattle.sc_repair.proofs.equations.sums_of.Given as goal

abbrev pub invariant-loop-j : goal.invariant-loop-j
invariant-loop-j l = AreSums l.code l.m l.j l.sums.items
