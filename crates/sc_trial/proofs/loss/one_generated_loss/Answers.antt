use Rattle.sc_trial.proofs.LossSteps.{generated_loss-one}
use Rattle.sc_trial.proofs.loss.one_generated_loss.Goals as goal

pub returns : goal.returns
returns c = generated_loss-one
