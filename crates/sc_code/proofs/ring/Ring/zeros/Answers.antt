use Rattle.std.proofs.Common.{◌*◌}
use Rattle.sc_code.proofs.RingSteps.{blocks-zeros}
use Rattle.sc_code.proofs.ring.Ring.zeros.Goals as goal

pub returns-clause-blocks : goal.returns-clause-blocks
returns-clause-blocks c =
    blocks-zeros c.args.size c.args.count (c.args.count * c.args.size) c.in_ok-bytes.bytes.items c.in_ok-places.places.items (c.in_ok-bytes.ensures.items_if_clones_equal (λ y e. e)) c.in_ok-places.ensures.count c.in_ok-places.ensures.within
