use Rattle.sc_code.proofs.RingSteps.{ArePlaces-none, ArePlaces-more}
use Rattle.sc_code.proofs.ring.places_of.Goals as goal

pub loop-q-init : goal.loop-q-init
loop-q-init c = ArePlaces-none c.args.size c.args.count c.in_ok-places.places c.in_ok-places.ensures

pub loop-q-preserved : goal.loop-q-preserved
loop-q-preserved c =
    ArePlaces-more c.args.size c.loop-q.q c.args.count c.loop-q.places c.push_back.new.self c.loop-q-test.true c.push_back.ensures.items c.loop-q.invariant
