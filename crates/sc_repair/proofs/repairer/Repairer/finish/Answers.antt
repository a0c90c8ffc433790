use Rattle.std.proofs.Common.{sym, subst, arith}
use Rattle.sc_repair.specs.Repairer.{Repairer, kept_by}
use Rattle.sc_repair.specs.Stands.{Stands}
use Rattle.sc_repair.proofs.CallSteps.{Stands-later}
use Rattle.sc_repair.proofs.repairer.Repairer.finish.Goals as goal

pub returns-clause-stands : goal.returns-clause-stands
returns-clause-stands c taken h =
    let e = c.self.inside in
    let s = kept_by e.k e.r e.memory e.deadline e.m e.front e.passed e.next e.past e.end e.claimed e.finished e.known e.block.items e.own in
    Stands-later s e.next e.block.items taken (omega arith) (subst (λ (x : Repairer). Stands x taken) (sym c.self.view_is) h)
