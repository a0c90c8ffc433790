use Rattle.std.proofs.Common.{length, arith}
use Rattle.sc_repair.proofs.SumSteps.{touched_all}
use Rattle.sc_repair.proofs.sum.touch_rest.Goals as goal

pub returns-clause-touched : goal.returns-clause-touched
returns-clause-touched c =
    touched_all (length c.args.free.now) c.args.first c.args.own.now c.requires.room c.args.flags.now c.args.cols.now c.requires.columns c.loop-i.free (λ x lt e. c.loop-i.invariant.2 x (let end = c.loop-i-test.false in omega arith) e)
