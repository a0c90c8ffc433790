use Rattle.std.proofs.Common.{◌≡◌, arith, length, vec_len, sym, subst}
use Rattle.sc_rtpdump.specs.DumpRecord.{HoldsRecord}
use Rattle.sc_rtpdump.proofs.DumpRecordSteps.{HoldsRecord-set}
use Rattle.sc_rtpdump.proofs.record.DumpRecord.fill.Goals as goal

pub invariant_of-self-2 : goal.invariant_of-self-2
invariant_of-self-2 g c =
    let same : c.from-len.result ≡ c.args.head.len = c.from-len.ensures in
    let kept : vec_len c.read_body.new.bytes ≡ vec_len c.self.inside.bytes = c.in_ok-read_body.ensures.size in
    let size : length c.read_body.new.bytes.items ≡ 65535 = omega (arith, kept, c.self.invariant.room) in
    subst (λ n. HoldsRecord c.args.head.plen c.args.head.offset n c.set_head.new.bytes.items) (sym same)
    (HoldsRecord-set c.args.head.len c.args.head.plen c.args.head.offset c.read_body.new.bytes.items c.set_head.new.bytes.items c.set_head.ensures size c.requires.length (omega (arith, c.requires.fits)) c.requires.fits.1 c.requires.fits.2)
