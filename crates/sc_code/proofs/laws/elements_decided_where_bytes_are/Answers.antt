use Rattle.sc_code.proofs.ElementLaws.{IsDecidedOver-from_bytes}
use Rattle.sc_code.proofs.laws.elements_decided_where_bytes_are.Goals as goal

pub returns : goal.returns
returns g c = IsDecidedOver-from_bytes g.met.F.Field.field g.met.F.Field.action g.met.F.Field.exact
