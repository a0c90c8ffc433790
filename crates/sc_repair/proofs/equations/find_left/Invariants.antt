use Rattle.std.proofs.Common.{◌≡◌, length}
use Rattle.sc_repair.specs.Equations.{AreOpenFrom}
use Rattle.sc_repair.proofs.equations.find_left.Given as goal

abbrev pub invariant-loop-slot : goal.invariant-loop-slot
invariant-loop-slot l = (length l.block ≡ length l.fn.block) × AreOpenFrom l.known l.k l.front l.end l.from l.slot
