use Rattle.std.proofs.Common.{◌≡◌, map}
use Rattle.std.specs.List.{range_with_len}
use Rattle.sc_diag.proofs.made.row_of.Given as goal

abbrev pub invariant-loop-j : goal.invariant-loop-j
invariant-loop-j g l = l.row.items ≡ map (g.E.Entries.entry l.fn.entries l.lag l.i) (range_with_len 0 l.j)
