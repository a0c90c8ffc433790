use Rattle.sc_slots.proofs.ProtectedLaws.{protecting-IsJob, protecting-decided}
use Rattle.sc_slots.proofs.protect.protecting_is_a_job.Goals as goal

pub returns-clause-grows : goal.returns-clause-grows
returns-clause-grows c = protecting-IsJob

pub returns-clause-decided : goal.returns-clause-decided
returns-clause-decided c = protecting-decided
