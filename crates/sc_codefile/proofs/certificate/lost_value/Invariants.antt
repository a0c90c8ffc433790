use Rattle.std.proofs.Common.{◌≡◌, take, map}
use Rattle.serde_json.specs.View.{view}
use Rattle.sc_codefile.specs.Value.{number_value}
use Rattle.sc_codefile.proofs.certificate.lost_value.Given as goal

abbrev pub invariant-loop-residue : goal.invariant-loop-residue
invariant-loop-residue l = map view l.numbers.items ≡ map number_value (take l.residue-index l.lost)
