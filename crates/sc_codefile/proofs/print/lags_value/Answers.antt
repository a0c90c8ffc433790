use Rattle.std.proofs.Common.{◌≡◌, ℕ, ◌<◌, List, [], ◌∷◌, ◌++◌, length, map, take, refl, sym, ap, ap₂, ◌∙◌, arith}
use Rattle.std.proofs.lemmas.List.{map_push, map_more, take_all}
use Rattle.serde_json.specs.Data.{Data, array}
use Rattle.serde_json.specs.View.{view, items_of}
use Rattle.serde_json.proofs.Views.{view-Array}
use Rattle.sc_matrix.specs.Matrix.{Matrix}
use Rattle.sc_codefile.specs.Value.{array_of, number_value}
use Rattle.sc_codefile.specs.CodeFile.{rows_of}
use Rattle.sc_codefile.proofs.print.lags_value.Goals as goal

-- matrices have the values of their rows
values_of_rows : (ms : List (Matrix ℕ)) → map (λ m. array_of (array_of number_value) m.rows) ms ≡ map (array_of (array_of number_value)) (rows_of ms)
values_of_rows [] = refl
values_of_rows (m ∷ ms) = ap (λ ds. array_of (array_of number_value) m.rows ∷ ds) (values_of_rows ms)

pub loop-lag-preserved : goal.loop-lag-preserved
loop-lag-preserved c =
    let lags = c.args.code.now.lags in
    let lag = c.loop-lag.lag in
    let value = λ (m : Matrix ℕ). array_of (array_of number_value) m.rows in
    let within : lag < length lags = omega (arith, c.memory-count.ensures.number) in
    ap (map view) c.in_ok-push.ensures.items ∙ map_push view c.loop-lag.lags.items c.in_ok-matrix_value.field-0
    ∙ ap₂ (λ (ds : List Data) (d : Data). ds ++ d ∷ []) c.loop-lag.invariant c.in_ok-matrix_value.ensures
    ∙ sym (map_more value lags lag (record { cols = 0; rows = [] }) within)

pub returns : goal.returns
returns c =
    let lags = c.args.code.now.lags in
    let all : take c.loop-lag.lag lags ≡ lags = take_all c.loop-lag.lag lags (omega (arith, c.memory-count.ensures.number)) in
    view-Array c.loop-lag.lags
    ∙ ap (λ (ds : List Data). array (items_of ds)) (c.loop-lag.invariant ∙ ap (map (λ m. array_of (array_of number_value) m.rows)) all ∙ values_of_rows lags)
