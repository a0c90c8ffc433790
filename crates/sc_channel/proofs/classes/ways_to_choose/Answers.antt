use Rattle.std.proofs.Common.{◌≤◌, arith}
use Rattle.std.proofs.lemmas.Nat.{mul-le}
use Rattle.sc_channel.proofs.ChooseSteps.{choose-limit, choose-next}
use Rattle.sc_channel.proofs.classes.ways_to_choose.Goals as goal

-- at most 2 ^ 40 ways, times at most 40
pub overflow_mul-ways : goal.overflow_mul-ways
overflow_mul-ways c =
    let limit : c.loop-i.ways ≤ 1099511627776 = omega (arith, c.loop-i.invariant, choose-limit c.args.places c.loop-i.i c.requires.limit) in
    omega (arith, mul-le c.loop-i.ways c.from.result 1099511627776 40 limit (omega (arith, c.from.ensures, c.requires.limit)))

pub loop-i-preserved : goal.loop-i-preserved
loop-i-preserved c =
    rw (c.from.ensures, c.from-in-loop-i.ensures, c.loop-i.invariant) (choose-next c.args.places c.loop-i.i (omega (arith, c.requires.within)))

pub returns-clause-bound : goal.returns-clause-bound
returns-clause-bound c = omega (arith, c.loop-i.invariant, choose-limit c.args.places c.loop-i.i c.requires.limit)
