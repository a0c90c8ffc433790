use Rattle.sc_matrix.proofs.EqualLaws.{equal_exact}
use Rattle.sc_matrix.proofs.laws.equality_is_exact.Goals as goal

pub returns : goal.returns
returns g c = equal_exact g.met.F.Field.numbered
