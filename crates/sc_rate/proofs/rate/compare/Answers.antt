use Rattle.std.proofs.Common.{◌+◌, ◌*◌, ◌≤◌, arith}
use Rattle.sc_rate.specs.Rate.{kept_count}
use Rattle.sc_rate.proofs.ByteCodeSteps.{byte_code_bounded}
use Rattle.sc_rate.proofs.rate.compare.Goals as goal

pub returns-clause-bounded : goal.returns-clause-bounded
returns-clause-bounded c = λ channel meets accepted e.
    let code = c.args.code.now in
    let cert = c.args.cert.now in
    let most : code.k * cert.period ≤ kept_count cert * (code.k + code.r) =
    byte_code_bounded code c.k.ensures.limits channel cert meets c.kept_slots-kept.ensures.limits accepted in
    let more = rw (c.k.ensures.number, c.k-2.ensures.number, c.r.ensures.number, c.period-period.ensures.number, c.kept_slots-kept.ensures.kept) at (c.rate_of.ensures.above.0 e) in
    absurd (omega arith)
