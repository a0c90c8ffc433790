use Rattle.std.proofs.Common.{◌≢◌, ◌<◌, length, arith, length-set, get_or-set_same, get_or-set_other, below_more, ◌∙◌}
use Rattle.sc_field.proofs.multiplier.products.Goals as goal

pub loop-k-preserved : goal.loop-k-preserved
loop-k-preserved g c =
    let table = c.loop-k.table in
    let k = c.loop-k.k in
    let long = c.loop-k.invariant.0 in
    let within : k < length table = omega arith in (
      length-set table k c.act.result ∙ long,
      below_more _ _
          (λ j h. (let other : j ≢ k = omega arith in get_or-set_other table k j c.act.result 0 other ∙ c.loop-k.invariant.1 j h))
          (rw (get_or-set_same table k c.act.result 0 within) c.act.ensures),
    )
