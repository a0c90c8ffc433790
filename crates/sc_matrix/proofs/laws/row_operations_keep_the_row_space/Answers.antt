use Rattle.sc_matrix.proofs.RowSpaceLaws.{row_space_laws}
use Rattle.sc_matrix.proofs.laws.row_operations_keep_the_row_space.Goals as goal

pub returns : goal.returns
returns g c = row_space_laws g.met.F.Field.field
