use Rattle.std.proofs.Common.{◌≡◌, take, map}
use Rattle.serde_json.specs.View.{view}
use Rattle.sc_matrix.specs.Matrix.{row}
use Rattle.sc_code.specs.Code.{lag_matrix}
use Rattle.sc_codefile.specs.Value.{number_value}
use Rattle.sc_codefile.proofs.print.row_value.Given as goal

abbrev pub invariant-loop-j : goal.invariant-loop-j
invariant-loop-j l = map view l.numbers.items ≡ map number_value (take l.j (row (lag_matrix l.code l.lag) l.i))
