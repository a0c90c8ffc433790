use Rattle.sc_matrix.proofs.Modules.{field_module, byte_module}
use Rattle.sc_matrix.proofs.RowSpaceLaws.{kernel_laws}
use Rattle.sc_matrix.proofs.laws.kernels_are_subspaces.Goals as goal

pub returns : goal.returns
returns g c = record { elements = kernel_laws g.met.F.Field.field (field_module g.met.F.Field.field); bytes = kernel_laws g.met.F.Field.field (byte_module g.met.F.Field.action) }
