use Rattle.std.proofs.Common.{arith}
use Rattle.sc_check.proofs.FailingSteps.{all-told}
use Rattle.sc_check.proofs.failing.first_failing.Goals as goal

pub returns : goal.returns
returns g c =
    all-told c.args.code.now c.args.classes.now c.min-parts.result c.in_ok-burst.burst c.in_ok-found.found c.with_burst.result (omega (arith, c.min-parts.ensures, c.requires.some, c.count.ensures.number))
    c.in_ok-burst.ensures c.in_ok-found.ensures c.with_burst.ensures
