-- Flag i enters the last w flags, and flag i - w leaves them.
use Rattle.std.proofs.Common.{arith}
use Rattle.sc_channel.proofs.SweepSteps.{recent_sums}
use Rattle.sc_channel.proofs.loss.recent_count.Goals as goal

pub overflow_sub-result : goal.overflow_sub-result
overflow_sub-result c =
    let sums = recent_sums c.args.w c.args.flags.now c.args.i c.args.set c.requires.within c.if-i-w.false c.requires.before in
    omega (arith, sums.1, c.from.ensures, c.from-else-i-w.ensures)

pub returns-else-i-w : goal.returns-else-i-w
returns-else-i-w c =
    let sums = recent_sums c.args.w c.args.flags.now c.args.i c.args.set c.requires.within c.if-i-w.false c.requires.before in
    record { sum_is = omega (arith, sums.0, sums.1, c.from.ensures, c.from-else-i-w.ensures) }
