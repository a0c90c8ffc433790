use Rattle.std.proofs.Common.{◌≡◌, drop}
use Rattle.std.specs.List.{list_all}
use Rattle.sc_codefile.specs.CodeFile.{is_matrix}
use Rattle.sc_codefile.proofs.ranges.are_lags.Given as goal

abbrev pub invariant-loop-rows : goal.invariant-loop-rows
invariant-loop-rows l = list_all (is_matrix l.k l.r) l.lags ≡ list_all (is_matrix l.k l.r) (drop l.rows-index l.lags)
