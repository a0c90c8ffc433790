use Rattle.std.proofs.Common.{arith}
use Rattle.std.proofs.lemmas.Grind.{common_steps}
use Rattle.sc_codefile.proofs.LossSteps.{flags-written}
use Rattle.sc_codefile.proofs.loss.flags_of.Goals as goal

pub returns : goal.returns
returns c = grind (arith, common_steps, flags-written c.args.text.now c.requires)
