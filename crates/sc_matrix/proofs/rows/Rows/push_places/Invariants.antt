use Rattle.std.proofs.Common.{◌≡◌, ◌++◌, map, take}
use Rattle.sc_matrix.specs.Matrix.{entry}
use Rattle.sc_matrix.specs.Rows.{table}
use Rattle.sc_matrix.proofs.rows.Rows.push_places.Given as goal

abbrev pub invariant-loop-j : goal.invariant-loop-j
invariant-loop-j l = l.out.items ≡ l.fn.out.items ++ map (entry 0 (table l.self) l.i) (take l.j-index l.places)
