use Rattle.std.proofs.Common.{◌≤◌, length, arith}
use Rattle.sc_rate.proofs.KeptSteps.{length-lost}
use Rattle.sc_rate.proofs.rate.kept_slots.Goals as goal

pub overflow_cast-result : goal.overflow_cast-result
overflow_cast-result c =
    let fits : length c.args.cert.now.lost ≤ c.args.cert.now.period = length-lost c.args.cert.now c.lost.ensures.limits in
    rw (c.lost.ensures.residues) (omega (arith, fits, c.lost.ensures.limits.period_limit))

pub overflow_sub-result : goal.overflow_sub-result
overflow_sub-result c =
    let fits : length c.args.cert.now.lost ≤ c.args.cert.now.period = length-lost c.args.cert.now c.lost.ensures.limits in
    rw (c.lost.ensures.residues, c.period.ensures.number) fits
