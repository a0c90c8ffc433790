use Rattle.sc_field.proofs.Making.{chunk_lanes}
use Rattle.sc_field.proofs.lanes.load.Goals as goal

pub returns : goal.returns
returns c = chunk_lanes 32 c.args.at c.args.s.now c.requires
