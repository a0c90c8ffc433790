use Rattle.std.proofs.Common.{◌≡◌, ◌++◌, map, take}
use Rattle.sc_window.proofs.decide.push_numbers.Given as goal

abbrev pub invariant-loop-x : goal.invariant-loop-x
invariant-loop-x g l = l.numbers.items ≡ l.fn.numbers.items ++ map g.F.Field.number (take l.x-index l.elements)
