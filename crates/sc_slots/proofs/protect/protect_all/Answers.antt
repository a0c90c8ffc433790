use Rattle.sc_slots.proofs.EndSteps.{packet_is, wide_end, no_memory_end}
use Rattle.sc_slots.proofs.protect.protect_all.Goals as goal

pub returns-in_default-clause-ends : goal.returns-in_default-clause-ends
returns-in_default-clause-ends g c =
    no_memory_end c.args.file.now c.args.size _ _
    (packet_is c.args.file.now c.args.size c.k.result c.k-2.result c.r.result c.width-m.result c.k.ensures.number c.k-2.ensures.number c.r.ensures.number c.width-m.ensures.value)
    c.if-packet-gt-MAX_PACKET.false

pub returns-then-packet-gt-MAX_PACKET-clause-ends : goal.returns-then-packet-gt-MAX_PACKET-clause-ends
returns-then-packet-gt-MAX_PACKET-clause-ends g c =
    wide_end c.args.file.now c.args.size _ _
    (packet_is c.args.file.now c.args.size c.k.result c.k-2.result c.r.result c.width-m.result c.k.ensures.number c.k-2.ensures.number c.r.ensures.number c.width-m.ensures.value)
    c.if-packet-gt-MAX_PACKET.true
