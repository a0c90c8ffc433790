use Rattle.sc_check.proofs.FailingSteps.{first_failing-one}
use Rattle.sc_check.proofs.laws.one_first_failing.Goals as goal

pub returns : goal.returns
returns c = first_failing-one
