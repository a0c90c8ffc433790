use Rattle.std.proofs.Common.{◌≡◌, length, take}
use Rattle.sc_channel.specs.Certificate.{periodic_flags}
use Rattle.sc_rate.proofs.residue.stretch_of.Given as goal

abbrev pub invariant-loop-i : goal.invariant-loop-i
invariant-loop-i l = (length l.flags ≡ 41) × (take l.i l.flags ≡ periodic_flags l.cert l.residue l.i)
