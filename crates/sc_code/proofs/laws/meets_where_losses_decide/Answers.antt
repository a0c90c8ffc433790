use Rattle.sc_code.proofs.MeetsLaws.{Meets-iff_decided}
use Rattle.sc_code.proofs.ClassLaws.{Meets-iff_classes}
use Rattle.sc_code.proofs.laws.meets_where_losses_decide.Goals as goal

pub returns-clause-losses : goal.returns-clause-losses
returns-clause-losses g c = Meets-iff_decided g.met.F.Field.field g.met.F.Field.action

pub returns-clause-classes : goal.returns-clause-classes
returns-clause-classes g c = Meets-iff_classes g.met.F.Field.field g.met.F.Field.action
