use Rattle.sc_repair.proofs.EndSteps.{no_memory_end}
use Rattle.sc_repair.proofs.PromptSteps.{no_memory_prompt}
use Rattle.sc_repair.proofs.repair.repair_all.Goals as goal

pub returns-in_default-clause-ends : goal.returns-in_default-clause-ends
returns-in_default-clause-ends g c = no_memory_end c.args.file.now _

pub returns-in_default-clause-prompt : goal.returns-in_default-clause-prompt
returns-in_default-clause-prompt g c = no_memory_prompt c.args.file.now (g.P.Port.told c.args.port.now)
