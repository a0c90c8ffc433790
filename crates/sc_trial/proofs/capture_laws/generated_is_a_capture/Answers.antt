use Rattle.sc_trial.proofs.GeneratedLaws.{generated-capture, generated-count, generated-kind}
use Rattle.sc_trial.proofs.capture_laws.generated_is_a_capture.Goals as goal

pub returns-clause-capture : goal.returns-clause-capture
returns-clause-capture c = generated-capture

pub returns-clause-count : goal.returns-clause-count
returns-clause-count c = generated-count

pub returns-clause-kind : goal.returns-clause-kind
returns-clause-kind c = generated-kind
