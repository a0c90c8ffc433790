use Rattle.std.proofs.Common.{◌≡◌, ◌++◌, map}
use Rattle.std.specs.List.{range_with_len}
use Rattle.sc_window.specs.Rows.{window_entry}
use Rattle.sc_window.proofs.window.push_block.Given as goal

abbrev pub invariant-loop-i : goal.invariant-loop-i
invariant-loop-i g l =
    l.row.items ≡ l.fn.row.items ++ map g.F.Field.number (map (window_entry g.F.Field.zero l.code l.t l.j l.s) (range_with_len 0 l.i))
