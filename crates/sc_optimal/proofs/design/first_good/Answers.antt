use Rattle.sc_optimal.proofs.DesignSteps.{answer_fault}
use Rattle.sc_optimal.proofs.design.first_good.Goals as goal

pub returns-in-Err-clause-answer : goal.returns-in-Err-clause-answer
returns-in-Err-clause-answer g c = answer_fault c.args.kind c.args.channel.now c.in-Err.fault c.in-Err.ensures.fault
