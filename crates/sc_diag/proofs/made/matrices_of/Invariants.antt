use Rattle.std.proofs.Common.{◌≡◌, map}
use Rattle.std.specs.List.{range_with_len}
use Rattle.sc_diag.specs.Made.{matrix_with}
use Rattle.sc_diag.proofs.made.matrices_of.Given as goal

abbrev pub invariant-loop-lag : goal.invariant-loop-lag
invariant-loop-lag g l =
    l.lags.items ≡ map (λ lag. matrix_with (g.E.Entries.rows l.fn.entries) (g.E.Entries.cols l.fn.entries) (g.E.Entries.entry l.fn.entries lag)) (range_with_len 0 l.lag)
