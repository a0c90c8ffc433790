use Rattle.std.proofs.Common.{◌≡◌, take, map}
use Rattle.serde_json.specs.View.{view}
use Rattle.sc_codefile.specs.Value.{array_of, number_value}
use Rattle.sc_codefile.proofs.print.lags_value.Given as goal

abbrev pub invariant-loop-lag : goal.invariant-loop-lag
invariant-loop-lag l = map view l.lags.items ≡ map (λ m. array_of (array_of number_value) m.rows) (take l.lag l.code.lags)
