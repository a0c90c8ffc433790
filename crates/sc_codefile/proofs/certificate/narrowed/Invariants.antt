use Rattle.std.proofs.Common.{◌≡◌, take}
use Rattle.sc_codefile.proofs.certificate.narrowed.Given as goal

abbrev pub invariant-loop-residue : goal.invariant-loop-residue
invariant-loop-residue l = l.residues.items ≡ take l.residue-index l.lost
