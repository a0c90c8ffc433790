use Rattle.std.proofs.Common.{◌≡◌, length}
use Rattle.sc_repair.specs.Equations.{HasSymbols, Learns}
use Rattle.sc_repair.proofs.equations.learn_block.Given as goal

abbrev pub invariant-loop-i : goal.invariant-loop-i
invariant-loop-i l =
    (length l.row ≡ length l.fn.row) × (l.known.cols ≡ l.fn.known.cols) × (l.known.width ≡ l.fn.known.width)
    × Learns l.fn.known l.known (HasSymbols l.k l.m l.places l.place l.i l.block)
