use Rattle.sc_repair.proofs.JobLaws.{repairing-IsJob, repairing-decided}
use Rattle.sc_repair.proofs.laws.repairing_is_a_job.Goals as goal

pub returns-clause-grows : goal.returns-clause-grows
returns-clause-grows c = repairing-IsJob

pub returns-clause-decided : goal.returns-clause-decided
returns-clause-decided c = repairing-decided
