use Rattle.sc_check.proofs.VerdictSteps.{Meets-iff_listed}
use Rattle.sc_check.proofs.laws.meets_where_classes_decide.Goals as goal

pub returns : goal.returns
returns g c = Meets-iff_listed g.met.F.Field.field g.met.F.Field.action
