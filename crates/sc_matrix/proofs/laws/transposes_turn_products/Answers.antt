use Rattle.sc_matrix.proofs.ProductLaws.{transpose_laws}
use Rattle.sc_matrix.proofs.laws.transposes_turn_products.Goals as goal

pub returns : goal.returns
returns g c = transpose_laws g.met.F.Field.field
