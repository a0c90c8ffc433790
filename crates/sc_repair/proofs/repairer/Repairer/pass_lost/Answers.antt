use Rattle.std.proofs.Common.{◌≡◌, sym, ap, ◌∙◌, subst, arith}
use Rattle.sc_repair.specs.Repairer.{Repairer, kept_by}
use Rattle.sc_repair.specs.Stands.{Stands}
use Rattle.sc_repair.proofs.CallSteps.{Stands-lost}
use Rattle.sc_repair.proofs.repairer.Repairer.pass_lost.Goals as goal

pub returns-clause-stands : goal.returns-clause-stands
returns-clause-stands c taken h =
    let e = c.self.inside in
    let s = kept_by e.k e.r e.memory e.deadline e.m e.front e.passed e.next e.past e.end e.claimed e.finished e.known e.block.items e.own in
    let view : s ≡ c.give_up.new.self = c.self.view_is in
    let same = c.give_up.ensures.same in
    let passed = ap (λ (x : Repairer). x.passed) (view ∙ same) in
    let next = ap (λ (x : Repairer). x.next) (view ∙ same) in
    let deadline = ap (λ (x : Repairer). x.deadline) (view ∙ same) in
    let memory = ap (λ (x : Repairer). x.memory) view in
    let length = ap (λ (x : Repairer). x.deadline) view in
    let here = ap (λ (x : Repairer). x.passed) view in
    let front = ap (λ (x : Repairer). x.front) view in
    let near = c.requires.in_time in
    let room = c.give_up.ensures.room in
    let on = ap (λ (x : Repairer). x.finished) (view ∙ same) ∙ c.requires.goes_on in
    Stands-lost s on (omega arith) (omega arith) taken (subst (λ (x : Repairer). Stands x taken) (sym view) (c.give_up.ensures.stands taken h))
