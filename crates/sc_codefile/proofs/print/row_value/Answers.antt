use Rattle.std.proofs.Common.{◌<◌, List, [], ◌∷◌, ◌++◌, length, map, sym, ap, ap₂, ◌∙◌, arith}
use Rattle.std.proofs.lemmas.List.{map_push, map_more, take_all}
use Rattle.serde_json.specs.Data.{Data, array}
use Rattle.serde_json.specs.View.{view, items_of}
use Rattle.serde_json.proofs.Views.{view-Array}
use Rattle.sc_matrix.specs.Matrix.{row}
use Rattle.sc_code.specs.Code.{lag_matrix}
use Rattle.sc_codefile.specs.Value.{number_value}
use Rattle.sc_codefile.proofs.CodeSteps.{row_length}
use Rattle.sc_codefile.proofs.print.row_value.Goals as goal

pub loop-j-preserved : goal.loop-j-preserved
loop-j-preserved c =
    let code = c.args.code.now in
    let j = c.loop-j.j in
    let xs = row (lag_matrix code c.args.lag) c.args.i in
    let long = row_length code c.r.ensures.limits c.args.lag c.args.i c.requires.lag c.requires.row in
    let within : j < length xs = omega (arith, long) in
    ap (map view) c.in_ok-push.ensures.items ∙ map_push view c.loop-j.numbers.items c.from.result
    ∙ ap₂ (λ (ds : List Data) (d : Data). ds ++ d ∷ []) c.loop-j.invariant (c.from.ensures ∙ ap number_value (c.number.ensures ∙ c.coefficient.ensures.value))
    ∙ sym (map_more number_value xs j 0 within)

pub returns : goal.returns
returns c =
    let code = c.args.code.now in
    let xs = row (lag_matrix code c.args.lag) c.args.i in
    let long = row_length code c.r.ensures.limits c.args.lag c.args.i c.requires.lag c.requires.row in
    view-Array c.loop-j.numbers
    ∙ ap (λ (ds : List Data). array (items_of ds)) (c.loop-j.invariant ∙ ap (map number_value) (take_all c.loop-j.j xs (omega (arith, long))))
