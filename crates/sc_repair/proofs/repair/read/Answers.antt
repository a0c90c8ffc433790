use Rattle.std.proofs.Common.{subst, sym, ap, ◌∙◌}
use Rattle.sc_rtp.specs.Reading.{AreBytes}
use Rattle.sc_slots.specs.Answers.{reading}
use Rattle.sc_repair.specs.Readings.{record_reading}
use Rattle.sc_repair.proofs.ReadingLaws.{record_reading-is}
use Rattle.sc_repair.proofs.repair.read.Goals as goal

pub returns-clause-reads : goal.returns-clause-reads
returns-clause-reads c =
    let bytes : AreBytes c.args.rec.now.body = subst AreBytes c.body.ensures c.are_bytes.ensures in
    ap (λ k. record_reading k c.args.file.now.code.r c.args.file.now.channel.t c.args.rec.now) (sym c.k.ensures.number)
    ∙ ap (λ r. record_reading c.k.result r c.args.file.now.channel.t c.args.rec.now) (sym c.r.ensures.number)
    ∙ ap (λ t. record_reading c.k.result c.r.result t c.args.rec.now) (sym c.t.ensures.number)
    ∙ record_reading-is c.k.result c.r.result c.t.result c.args.rec.now (reading c.read_slot.result) bytes c.read_slot.ensures.reads
