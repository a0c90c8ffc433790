use Rattle.std.proofs.Common.{arith}
use Rattle.sc_rtpdump.proofs.DumpRecordSteps.{HoldsRecord-set}
use Rattle.sc_rtpdump.proofs.record.DumpRecord.start.Goals as goal

pub invariant_of-result : goal.invariant_of-result
invariant_of-result c = HoldsRecord-set 8 0 0 _ _ c.set_head.ensures c.in_ok-bytes.ensures (omega arith) (omega arith) (omega arith) (omega arith)
