use Rattle.std.proofs.Common.{◌+◌, ◌++◌, ◌∙◌, List, map, take, get_or, sym, ap, arith}
use Rattle.std.proofs.lemmas.List.{take_more, take_all}
use Rattle.sc_window.proofs.RowSteps.{pushed}
use Rattle.sc_window.proofs.decide.push_numbers.Goals as goal

pub loop-x-preserved : goal.loop-x-preserved
loop-x-preserved g c =
    let xs = c.args.elements.now in
    let i = c.loop-x.x-index in
    let x = get_or xs i c.x-item.result in
    c.in_ok-push.ensures.items
    ∙ pushed g.F.Field.number c.args.numbers.now.items c.loop-x.numbers.items (take i xs) (take (i + 1) xs) x c.number.result c.loop-x.invariant
    (c.number.ensures ∙ ap g.F.Field.number c.x-item.is) (sym (take_more xs i c.x-item.result c.loop-x-test.true))

pub returns : goal.returns
returns g c =
    c.loop-x.invariant ∙ ap (λ (xs : List g.row.F.Denot). c.args.numbers.now.items ++ map g.F.Field.number xs) (take_all c.loop-x.x-index c.args.elements.now (omega arith))
