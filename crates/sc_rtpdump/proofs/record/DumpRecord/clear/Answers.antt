use Rattle.std.proofs.Common.{arith}
use Rattle.sc_rtpdump.proofs.DumpRecordSteps.{HoldsRecord-set}
use Rattle.sc_rtpdump.proofs.record.DumpRecord.clear.Goals as goal

pub invariant_of-self : goal.invariant_of-self
invariant_of-self c = HoldsRecord-set 8 0 0 _ _ c.set_head.ensures c.self.invariant.room (omega arith) (omega arith) (omega arith) (omega arith)
