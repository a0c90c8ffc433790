use Rattle.std.proofs.Common.{◌≡◌, []}
use Rattle.sc_repair.specs.RepairSteps.{AreFew, IsGoing}
use Rattle.sc_repair.proofs.RecordSteps.{Passed}
use Rattle.sc_repair.proofs.repair.take_records.Given as goal

-- so many records were taken, and what is due then was written
abbrev pub invariant-loop-index : goal.invariant-loop-index
invariant-loop-index g l =
    let told = g.P.Port.told in
    record {
      empty : l.state.pending ≡ [];
      passed : Passed l.file (told l.fn.port) (told l.port) l.index l.state.kept l.state.counts;
      going : IsGoing l.file l.state.kept l.state.counts;
      few : AreFew l.index l.state.counts;
    }
