use Rattle.std.proofs.Common.{arith}
use Rattle.sc_echelon.specs.Kernel.{IsKernelVector}
use Rattle.sc_window.proofs.SpellLaws.{first_width}
use Rattle.sc_window.proofs.DecideSteps.{decided_from_none_free, none_free_from_decided}
use Rattle.sc_window.proofs.decide.decides.Goals as goal

pub none_free-requires : goal.none_free-requires
none_free-requires g c =
    let enough = first_width c.args.code.now.k c.args.class.now c.requires.first_lost in
    omega (arith, c.k.ensures.number, c.in_ok-reduced.ensures.cols)

pub returns : goal.returns
returns g c =
    let F = g.F.Field in
    let code = c.args.code.now in
    let class = c.args.class.now in
    let r = c.in_ok-reduced.reduced in
    let K = IsKernelVector F.IsElement F.zero F.add F.mul r.cols r.rows in (
      λ yes. decided_from_none_free g.met.F.Field.field g.met.F.Field.exact code class c.requires.first_lost K c.in_ok-reduced.ensures.kernel
          (λ col lt. c.none_free.ensures.0 yes col (omega (arith, c.k.ensures.number))),
      λ decided. c.none_free.ensures.1
          (λ col lt. none_free_from_decided g.met.F.Field.field g.met.F.Field.exact code class c.requires.first_lost K c.in_ok-reduced.ensures.kernel decided col (omega (arith, c.k.ensures.number))),
    )
