use Rattle.std.proofs.Common.{◌≡◌, ◌++◌, List, ℕ, get_or, map, take}
use Rattle.sc_matrix.specs.Rows.{table}
use Rattle.sc_matrix.proofs.rows.Rows.push_column.Given as goal

abbrev pub invariant-loop-i : goal.invariant-loop-i
invariant-loop-i l = l.out.items ≡ l.fn.out.items ++ map (λ (r : List ℕ). get_or r l.j 0) (take l.i (table l.self).rows)
