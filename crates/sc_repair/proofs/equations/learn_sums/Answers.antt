use Rattle.std.proofs.Common.{◌<◌, [], get_or, ◌∙◌, arith}
use Rattle.sc_matrix.specs.Layout.{cut}
use Rattle.sc_slots.specs.Rows.{parity_row}
use Rattle.sc_repair.specs.Equations.{Gives}
use Rattle.sc_repair.proofs.EquationSteps.{learns_more, refuses_more}
use Rattle.sc_repair.proofs.equations.learn_sums.Goals as goal

pub returns-then-not-learn_sum-clause-refuses : goal.returns-then-not-learn_sum-clause-refuses
returns-then-not-learn_sum-clause-refuses c e =
    let code = c.args.code.now in
    let m = c.args.m in
    let j = c.loop-j.j in
    let few = c.r-j-end.ensures.number in
    let lt : j < code.r = omega (arith, c.loop-j-test.true) in
    refuses_more (λ i s. Gives m (parity_row 0 1 code c.args.places c.args.place i) (get_or (cut code.r m c.args.parity.now) i []) s) c.args.known.now c.loop-j.known j code.r lt c.loop-j.invariant.3 (c.learn_sum.ensures.refuses c.if-not-learn_sum.true)

pub loop-j-preserved : goal.loop-j-preserved
loop-j-preserved c =
    let code = c.args.code.now in
    let m = c.args.m in
    let j = c.loop-j.j in (
      c.learn_sum.ensures.row ∙ c.loop-j.invariant.0,
      c.learn_sum.ensures.cols ∙ c.loop-j.invariant.1,
      c.learn_sum.ensures.width ∙ c.loop-j.invariant.2,
      learns_more (λ i s. Gives m (parity_row 0 1 code c.args.places c.args.place i) (get_or (cut code.r m c.args.parity.now) i []) s) c.args.known.now c.loop-j.known c.learn_sum.new.known j c.loop-j.invariant.3 (c.learn_sum.ensures.learns c.if-not-learn_sum.false),
    )
