use Rattle.std.proofs.Common.{◌-◌}
use Rattle.sc_check.proofs.WalkSteps.{IsFrontOf-start}
use Rattle.sc_check.proofs.walk.all_behind_burst.Goals as goal

pub returns-clause-front : goal.returns-clause-front
returns-clause-front c =
    IsFrontOf-start c.args.walk.now.classes.now c.args.flags.now (c.n.result - 1) (c.count.result - 1) c.requires.room c.requires.set (cc) (cc)
