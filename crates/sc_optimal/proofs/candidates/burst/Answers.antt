use Rattle.sc_optimal.proofs.DesignSteps.{made_burst, fault_burst}
use Rattle.sc_optimal.proofs.candidates.burst.Goals as goal

pub returns-in-Ok-clause-made : goal.returns-in-Ok-clause-made
returns-in-Ok-clause-made c = made_burst c.args.channel.now c.in-Ok.code c.keep_limits.ensures c.in-Ok.ensures.not_burst c.in-Ok.ensures.too_wide

pub returns-in-Err-clause-fault : goal.returns-in-Err-clause-fault
returns-in-Err-clause-fault c = rw c.of_burst.ensures (fault_burst c.args.channel.now c.in-Err.fault c.in-Err.ensures.not_burst c.in-Err.ensures.too_wide)
