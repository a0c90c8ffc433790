use Rattle.std.proofs.Common.{Ok}
use Rattle.sc_optimal.specs.declared.kind.MakerKind.TheVariants.{Optimal}
use Rattle.sc_optimal.proofs.DesignSteps.{made_wide, fault_wide}
use Rattle.sc_optimal.proofs.candidates.optimal.Goals as goal

pub returns-in-Ok-clause-made : goal.returns-in-Ok-clause-made
returns-in-Ok-clause-made c = made_wide Optimal c.args.channel.now (Ok c.in-Ok.code) (λ h. h) c.in-Ok.ensures.too_wide

pub returns-in-Err-clause-fault : goal.returns-in-Err-clause-fault
returns-in-Err-clause-fault c = rw c.of_width.ensures (fault_wide Optimal c.args.channel.now c.in-Err.fault (λ h. h) c.in-Err.ensures.too_wide)
