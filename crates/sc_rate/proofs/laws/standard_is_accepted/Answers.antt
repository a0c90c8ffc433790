use Rattle.sc_rate.proofs.StandardSteps.{standard-IsCertificate, standard-IsAccepted}
use Rattle.sc_rate.proofs.laws.standard_is_accepted.Goals as goal

pub returns-clause-certificate : goal.returns-clause-certificate
returns-clause-certificate c = standard-IsCertificate

pub returns-clause-accepted : goal.returns-clause-accepted
returns-clause-accepted c = standard-IsAccepted
