use Rattle.std.proofs.Common.{◌≡◌, ◌++◌, map}
use Rattle.std.specs.List.{range_with_len}
use Rattle.sc_window.specs.Rows.{window_row}
use Rattle.sc_window.proofs.window.push_slot.Given as goal

abbrev pub invariant-loop-j : goal.invariant-loop-j
invariant-loop-j g l =
    l.matrix ≡ record { cols = l.fn.matrix.cols; rows = l.fn.matrix.rows ++ map (λ j. window_row g.F.Field.zero l.code l.t j 0 l.class) (range_with_len 0 l.j) }
