use Rattle.std.proofs.Common.{◌≡◌}
use Rattle.sc_channel.specs.Classes.{choose}
use Rattle.sc_channel.proofs.classes.ways_to_choose.Given as goal

abbrev pub invariant-loop-i : goal.invariant-loop-i
invariant-loop-i l = l.ways ≡ choose l.places l.i
