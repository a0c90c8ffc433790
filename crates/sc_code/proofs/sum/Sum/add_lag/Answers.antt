use Rattle.std.proofs.Common.{◌≡◌, ℕ, subst, arith}
use Rattle.sc_code.specs.Sum.{HasTerms}
use Rattle.sc_code.proofs.SumSteps.{HasTerms-lag}
use Rattle.sc_code.proofs.sum.Sum.add_lag.Goals as goal

pub returns : goal.returns
returns g c =
    let all : c.loop-i.i ≡ c.args.code.now.k = grind arith in
    HasTerms-lag g.F.Field.zero g.F.Field.act c.args.code.now c.args.width c.args.j c.args.lag c.loop-i.self
    (subst (λ (i : ℕ). HasTerms g.F.Field.zero g.F.Field.act c.args.code.now c.args.width c.args.j c.args.lag i c.loop-i.self) all c.loop-i.invariant)
