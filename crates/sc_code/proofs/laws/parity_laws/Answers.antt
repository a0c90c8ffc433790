use Rattle.std.proofs.Common.{◌∙◌}
use Rattle.sc_matrix.proofs.Modules.{byte_module}
use Rattle.sc_code.specs.Stream.{column}
use Rattle.sc_code.proofs.ParityLaws.{parity_symbol-by_slots}
use Rattle.sc_code.proofs.ColumnLaws.{AreValues-column, byte_at-parity}
use Rattle.sc_code.proofs.StreamLaws.{parity-xor, parity-after_zeros, parity-append}
use Rattle.sc_code.proofs.LastBlocksLaws.{parity-last_blocks}
use Rattle.sc_code.proofs.laws.parity_laws.Goals as goal

pub returns-clause-adds : goal.returns-clause-adds
returns-clause-adds g c = parity-xor g.met.F.Field.field g.met.F.Field.action

pub returns-clause-shifts : goal.returns-clause-shifts
returns-clause-shifts g c = parity-after_zeros g.F.Field.zero g.F.Field.act

pub returns-clause-no_later : goal.returns-clause-no_later
returns-clause-no_later g c = parity-append g.F.Field.zero g.F.Field.act

pub returns-clause-last : goal.returns-clause-last
returns-clause-last g c = parity-last_blocks g.F.Field.zero g.F.Field.act

pub returns-clause-by_slots : goal.returns-clause-by_slots
returns-clause-by_slots g c code m xs t j b hc hx hj hb =
    byte_at-parity g.F.Field.zero g.F.Field.act code m xs t j b hj hb
    ∙ parity_symbol-by_slots g.met.F.Field.field (byte_module g.met.F.Field.action) code (column xs b) t j hc (AreValues-column code.k m xs b hx)
