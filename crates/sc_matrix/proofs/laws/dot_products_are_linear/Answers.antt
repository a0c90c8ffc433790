use Rattle.sc_matrix.proofs.Modules.{field_module, byte_module, dot_laws}
use Rattle.sc_matrix.proofs.laws.dot_products_are_linear.Goals as goal

pub returns : goal.returns
returns g c = record { elements = dot_laws g.met.F.Field.field (field_module g.met.F.Field.field); bytes = dot_laws g.met.F.Field.field (byte_module g.met.F.Field.action) }
