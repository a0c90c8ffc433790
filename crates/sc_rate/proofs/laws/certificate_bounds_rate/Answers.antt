use Rattle.sc_rate.proofs.BoundSteps.{rate_bounded, byte_rate_bounded}
use Rattle.sc_rate.proofs.AttainedSteps.{attained}
use Rattle.sc_rate.proofs.laws.certificate_bounds_rate.Goals as goal

pub returns-clause-symbols : goal.returns-clause-symbols
returns-clause-symbols c = rate_bounded

pub returns-clause-bytes : goal.returns-clause-bytes
returns-clause-bytes c = byte_rate_bounded

pub returns-clause-attained : goal.returns-clause-attained
returns-clause-attained c = attained
