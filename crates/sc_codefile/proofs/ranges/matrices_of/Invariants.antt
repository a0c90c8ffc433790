use Rattle.std.proofs.Common.{◌≡◌, take, map}
use Rattle.sc_codefile.specs.Numbers.{with_cols}
use Rattle.sc_codefile.proofs.ranges.matrices_of.Given as goal

abbrev pub invariant-loop-rows : goal.invariant-loop-rows
invariant-loop-rows l = l.matrices.items ≡ map (with_cols l.r) (take l.rows-index l.lags)
