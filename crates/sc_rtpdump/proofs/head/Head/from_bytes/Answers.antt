use Rattle.sc_rtpdump.proofs.HeadLaws.{head_bytes-from}
use Rattle.sc_rtpdump.proofs.head.Head.from_bytes.Goals as goal

pub returns-clause-spelled : goal.returns-clause-spelled
returns-clause-spelled c =
    head_bytes-from c.args.bytes.now _ _ _ c.told-bytes c.fits-bytes c.from_be_bytes.ensures c.from_be_bytes-2.ensures c.from_be_bytes-3.ensures
