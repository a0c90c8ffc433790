use Rattle.std.proofs.Common.{refl, arith}
use Rattle.sc_field.proofs.Making.{two_loaded}
use Rattle.sc_field.proofs.lanes.load_halves.Goals as goal

pub returns : goal.returns
returns c = two_loaded 16 32 c.args.at c.args.n c.args.s.now _ c.requires.1 c.requires.0 (omega arith) refl
