use Rattle.sc_code.proofs.RingSteps.{ArePlaces}
use Rattle.sc_code.proofs.ring.places_of.Given as goal

abbrev pub invariant-loop-q : goal.invariant-loop-q
invariant-loop-q l = ArePlaces l.size l.q l.count l.places
