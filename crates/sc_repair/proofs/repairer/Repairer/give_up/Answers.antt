use Rattle.std.proofs.Common.{◌≡◌, ℕ, ◌+◌, ◌-◌, sym, ap, ◌∙◌, subst, arith}
use Rattle.sc_repair.specs.Repairer.{Repairer, kept_by}
use Rattle.sc_repair.specs.Stands.{Stands}
use Rattle.sc_repair.proofs.CallSteps.{Stands-given_up}
use Rattle.sc_repair.proofs.repairer.Repairer.give_up.Goals as goal

pub returns-clause-stands : goal.returns-clause-stands
returns-clause-stands c taken h =
    let e = c.self.inside in
    let s = kept_by e.k e.r e.memory e.deadline e.m e.front e.passed e.next e.past e.end e.claimed e.finished e.known e.block.items e.own in
    let sound = c.self.invariant.sound in
    let view : s ≡ c.args.self.now = c.self.view_is in
    let a = sound.front_put in
    let b = sound.front_reaches in
    let lags = sound.in_range.lag_limit in
    let r = c.saturating_sub-reached.ensures in
    let f = c.min-first.ensures in
    let count = c.min-first.result - e.front in
    let on = ap (λ (x : Repairer). x.finished) view ∙ c.requires.goes_on in
    let first : e.front + count ≡ c.min-first.result = omega arith in
    subst (λ (x : ℕ). Stands (record s { front = x; known = c.forget_front.new.self }) taken) first
    (Stands-given_up s count c.forget_front.new.self sound on (omega arith) (omega arith) c.forget_front.ensures.solutions taken (subst (λ (x : Repairer). Stands x taken) (sym view) h))
