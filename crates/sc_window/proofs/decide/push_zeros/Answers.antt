use Rattle.std.proofs.Common.{◌+◌, ◌∙◌, replicate, ap}
use Rattle.std.proofs.lemmas.List.{replicate_more}
use Rattle.sc_window.proofs.RowSteps.{pushed}
use Rattle.sc_window.proofs.decide.push_zeros.Goals as goal

pub loop-i-preserved : goal.loop-i-preserved
loop-i-preserved g c =
    let zero = g.F.Field.zero in
    let i = c.loop-i._i in
    c.in_ok-push.ensures.items
    ∙ pushed g.F.Field.number c.args.numbers.now.items c.loop-i.numbers.items (replicate i zero) (replicate (i + 1) zero) zero c.number.result c.loop-i.invariant
    (c.number.ensures ∙ ap g.F.Field.number c.zero.ensures.value) (replicate_more i zero)
