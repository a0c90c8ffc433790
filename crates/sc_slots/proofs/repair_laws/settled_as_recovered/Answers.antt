use Rattle.sc_slots.proofs.SettledLaws.{IsSettled-iff_outcome}
use Rattle.sc_slots.proofs.repair_laws.settled_as_recovered.Goals as goal

pub returns : goal.returns
returns g c = IsSettled-iff_outcome g.F.Field.zero g.F.Field.act
