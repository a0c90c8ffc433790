use Rattle.std.proofs.Common.{sym, ap}
use Rattle.sc_rtpdump.specs.declared.kind.Kind.TheVariants.{Rtp}
use Rattle.sc_slots.specs.Protected.{protection_of, is_kind}
use Rattle.sc_slots.proofs.TakeSteps.{other_counts, rtcp_more, cut_more, strange_more}
use Rattle.sc_slots.proofs.protect.count_record.Goals as goal

pub returns-in-Rtcp : goal.returns-in-Rtcp
returns-in-Rtcp c =
    let e = c.args.rec.now in
    other_counts (protection_of c.args.file.now c.args.size) c.args.index e c.args.taken.now _ c.args.maker.now c.args.pending.now c.requires.index c.requires.of
    (ap (is_kind Rtp) (sym c.in-Rtcp.ensures.kind)) (rtcp_more e c.args.taken.now (sym c.in-Rtcp.ensures.kind))

pub returns-in-Cut : goal.returns-in-Cut
returns-in-Cut c =
    let e = c.args.rec.now in
    other_counts (protection_of c.args.file.now c.args.size) c.args.index e c.args.taken.now _ c.args.maker.now c.args.pending.now c.requires.index c.requires.of
    (ap (is_kind Rtp) (sym c.in-Cut.ensures.kind)) (cut_more e c.args.taken.now (sym c.in-Cut.ensures.kind))

pub returns-in-Strange : goal.returns-in-Strange
returns-in-Strange c =
    let e = c.args.rec.now in
    other_counts (protection_of c.args.file.now c.args.size) c.args.index e c.args.taken.now _ c.args.maker.now c.args.pending.now c.requires.index c.requires.of
    (ap (is_kind Rtp) (sym c.in-Strange.ensures.kind)) (strange_more e c.args.taken.now (sym c.in-Strange.ensures.kind))
