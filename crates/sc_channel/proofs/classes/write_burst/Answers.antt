use Rattle.std.proofs.Common.{arith}
use Rattle.sc_channel.proofs.OrderSteps.{burst-written}
use Rattle.sc_channel.proofs.classes.write_burst.Goals as goal

pub returns : goal.returns
returns c = burst-written c.loop-i.flags c.args.flags.now c.args.b c.loop-i.i c.loop-i.auto.flags (omega arith) c.requires c.loop-i.invariant
