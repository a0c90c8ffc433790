use Rattle.std.proofs.Common.{◌≡◌, take, map}
use Rattle.serde_json.specs.View.{view}
use Rattle.sc_code.specs.Code.{lag_matrix}
use Rattle.sc_codefile.specs.Value.{array_of, number_value}
use Rattle.sc_codefile.proofs.print.matrix_value.Given as goal

abbrev pub invariant-loop-i : goal.invariant-loop-i
invariant-loop-i l = map view l.rows.items ≡ map (array_of number_value) (take l.i (lag_matrix l.code l.lag).rows)
