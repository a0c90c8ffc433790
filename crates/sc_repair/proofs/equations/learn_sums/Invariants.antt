use Rattle.std.proofs.Common.{◌≡◌, length}
use Rattle.sc_repair.specs.Equations.{HasParities, Learns}
use Rattle.sc_repair.proofs.equations.learn_sums.Given as goal

abbrev pub invariant-loop-j : goal.invariant-loop-j
invariant-loop-j l =
    (length l.row ≡ length l.fn.row) × (l.known.cols ≡ l.fn.known.cols) × (l.known.width ≡ l.fn.known.width)
    × Learns l.fn.known l.known (HasParities l.code l.m l.places l.place l.j l.parity)
