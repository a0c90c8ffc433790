use Rattle.std.proofs.Common.{◌≡◌, ◌++◌, map, drop}
use Rattle.sc_window.specs.Rows.{window_row}
use Rattle.sc_window.proofs.window.write_row.Given as goal

-- with what the slots left give it is the whole row
abbrev pub invariant-loop-s : goal.invariant-loop-s
invariant-loop-s g l =
    l.row.items ++ map g.F.Field.number (window_row g.F.Field.zero l.code l.t l.j l.s (drop l.s l.class)) ≡ map g.F.Field.number (window_row g.F.Field.zero l.code l.t l.j 0 l.class)
