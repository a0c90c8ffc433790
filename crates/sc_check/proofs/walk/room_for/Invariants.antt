use Rattle.sc_check.specs.Walk.{IsRoom}
use Rattle.sc_check.proofs.walk.room_for.Given as goal

abbrev pub invariant-loop-lost : goal.invariant-loop-lost
invariant-loop-lost l = IsRoom l.cols l.lost l.spare.items
