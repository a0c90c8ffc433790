use Rattle.std.proofs.Common.{◌-◌, length, sym, ap, ◌∙◌, arith}
use Rattle.sc_channel.specs.Classes.{choose}
use Rattle.sc_check.proofs.WalkSteps.{lost_within}
use Rattle.sc_check.proofs.walk.ways_lost.Goals as goal

pub returns-clause-within : goal.returns-clause-within
returns-clause-within c =
    lost_within (length c.args.flags.now - c.args.front.done) c.args.front.left c.args.front.ways (omega (arith, c.requires.slot))
    (c.requires.front.count ∙ ap (λ n. choose (n - c.args.front.done) c.args.front.left) (sym c.requires.room))
