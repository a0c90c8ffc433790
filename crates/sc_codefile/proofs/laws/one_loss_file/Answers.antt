use Rattle.sc_codefile.specs.LossFile.{loss_faults}
use Rattle.sc_codefile.proofs.FaultSteps.{same_refusal}
use Rattle.sc_codefile.proofs.LossSteps.{same_loss, no_fault-loss, some_loss-no_fault, refused-loss}
use Rattle.sc_codefile.proofs.laws.one_loss_file.Goals as goal

pub returns-clause-loss : goal.returns-clause-loss
returns-clause-loss c = same_loss

pub returns-clause-no_fault : goal.returns-clause-no_fault
returns-clause-no_fault c = no_fault-loss

pub returns-clause-some_loss : goal.returns-clause-some_loss
returns-clause-some_loss c = some_loss-no_fault

pub returns-clause-refused : goal.returns-clause-refused
returns-clause-refused c = refused-loss

pub returns-clause-refusal : goal.returns-clause-refusal
returns-clause-refusal c = same_refusal loss_faults
