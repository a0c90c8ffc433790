use Rattle.std.proofs.Common.{◌-◌, length, ap}
use Rattle.sc_check.proofs.WalkSteps.{IsFrontOf-kept}
use Rattle.sc_check.proofs.walk.kept_next.Goals as goal

pub returns-clause-front : goal.returns-clause-front
returns-clause-front c =
    IsFrontOf-kept c.args.walk.now.classes.now c.args.flags.now c.args.front.done c.args.front.left c.args.front.first c.args.front.ways (length c.args.flags.now - c.args.front.done) c.args.middle
    c.requires.room (ap (λ n. n - c.args.front.done) c.requires.room) c.requires.slot c.requires.clear c.requires.middle c.requires.within c.requires.front
