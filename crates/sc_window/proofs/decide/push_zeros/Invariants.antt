use Rattle.std.proofs.Common.{◌≡◌, ◌++◌, map, replicate}
use Rattle.sc_window.proofs.decide.push_zeros.Given as goal

abbrev pub invariant-loop-i : goal.invariant-loop-i
invariant-loop-i g l = l.numbers.items ≡ l.fn.numbers.items ++ map g.F.Field.number (replicate l._i g.F.Field.zero)
