use Rattle.std.proofs.Common.{◌≡◌}
use Rattle.sc_repair.proofs.tests.drain.Given as goal

abbrev pub invariant-loop-turn : goal.invariant-loop-turn
invariant-loop-turn l = l.repairer ≡ record l.fn.repairer { next = l.repairer.next; block = l.repairer.block }
