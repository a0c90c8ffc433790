use Rattle.std.proofs.Common.{ℕ, ◌<◌}
use Rattle.sc_channel.specs.Certificate.{stretch}
use Rattle.sc_channel.specs.Loss.{IsAdmissible}
use Rattle.sc_rate.proofs.residue.first_bad_residue.Given as goal

abbrev pub invariant-loop-residue : goal.invariant-loop-residue
invariant-loop-residue l = (k : ℕ) → k < l.residue → IsAdmissible l.channel (stretch l.channel l.cert k)
