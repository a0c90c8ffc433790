use Rattle.sc_matrix.proofs.Modules.{field_module, byte_module}
use Rattle.sc_matrix.proofs.ProductLaws.{product_laws}
use Rattle.sc_matrix.proofs.laws.products_are_linear.Goals as goal

pub returns : goal.returns
returns g c = record { elements = product_laws g.met.F.Field.field (field_module g.met.F.Field.field); bytes = product_laws g.met.F.Field.field (byte_module g.met.F.Field.action) }
