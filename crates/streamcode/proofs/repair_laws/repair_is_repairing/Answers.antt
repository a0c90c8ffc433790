use Rattle.streamcode.proofs.RepairLaws.{code-file-due, recovered-due, zero-none-missed, five-some-missed, six-clash}
use Rattle.streamcode.proofs.repair_laws.repair_is_repairing.Goals as goal

pub returns-clause-file : goal.returns-clause-file
returns-clause-file c = code-file-due

pub returns-clause-recovered : goal.returns-clause-recovered
returns-clause-recovered c = recovered-due

pub returns-clause-zero : goal.returns-clause-zero
returns-clause-zero c = zero-none-missed

pub returns-clause-five : goal.returns-clause-five
returns-clause-five c = five-some-missed

pub returns-clause-six : goal.returns-clause-six
returns-clause-six c = six-clash
