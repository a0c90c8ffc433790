use Rattle.std.proofs.Common.{◌≡◌, ◌++◌, All, map, take, drop}
use Rattle.sc_echelon.proofs.window.number_all.Given as goal

abbrev pub invariant-loop-i : goal.invariant-loop-i
invariant-loop-i g l = record {
  value : l.numbers ≡ map g.F.Field.number (take l.i l.xs) ++ drop l.i l.fn.numbers;
  elements : All g.F.Field.IsElement (take l.i l.xs);
}
