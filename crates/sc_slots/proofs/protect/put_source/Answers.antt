use Rattle.std.proofs.Common.{◌≤◌, ◌<◌, ◌-◌, length, ap, arith}
use Rattle.sc_rtpdump.specs.declared.kind.Kind.TheVariants.{Rtp}
use Rattle.sc_slots.specs.Protected.{protection_of, is_kind}
use Rattle.sc_slots.proofs.TakeSteps.{refusal-none, source_counts}
use Rattle.sc_slots.proofs.protect.put_source.Goals as goal

pub returns : goal.returns
returns c =
    let e = c.args.rec.now in
    let p = protection_of c.args.file.now c.args.size in
    let long : length c.args.rec.now.body ≤ c.args.size = omega (arith, ap length c.body-packet.ensures, c.from.ensures, c.if-packet-from.false) in
    let room : c.args.taken.now.rtp < 4000000 - c.args.file.now.channel.t = omega (arith, c.t.ensures.number, c.if-taken-t.false) in
    source_counts p c.args.index e c.args.taken.now c.args.maker.now c.put_frame.new.self c.args.pending.now c.put_frame.new.pending c.body-packet.result.now c.timestamp_of.result c.offset.result
    c.requires.kind c.body-packet.ensures c.timestamp_of.ensures c.offset.ensures c.requires.of c.put_frame.ensures
    (refusal-none p c.args.index c.args.taken.now.rtp e c.requires.index (ap (is_kind Rtp) c.requires.kind) long room)
