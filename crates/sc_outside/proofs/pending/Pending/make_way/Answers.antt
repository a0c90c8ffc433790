use Rattle.std.proofs.Common.{[], refl, arith}
use Rattle.sc_outside.proofs.WholeLaws.{PutsAll-none}
use Rattle.sc_outside.proofs.pending.Pending.make_way.Goals as goal

pub returns-then-ready : goal.returns-then-ready
returns-then-ready g c = record { fits = omega arith; put = []; parts = refl; puts = PutsAll-none _ }
