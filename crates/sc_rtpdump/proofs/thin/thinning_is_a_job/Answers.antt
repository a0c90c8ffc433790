use Rattle.sc_rtpdump.proofs.ThinLaws.{thinning-IsJob}
use Rattle.sc_rtpdump.proofs.thin.thinning_is_a_job.Goals as goal

pub returns : goal.returns
returns c = thinning-IsJob
