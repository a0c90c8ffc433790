use Rattle.std.proofs.Common.{◌≡◌, drop}
use Rattle.sc_channel.specs.Certificate.{are_residues}
use Rattle.sc_channel.proofs.certificate.are_residues.Given as goal

abbrev pub invariant-loop-residue : goal.invariant-loop-residue
invariant-loop-residue l = are_residues l.period 0 l.lost ≡ are_residues l.period l.least (drop l.residue-index l.lost)
