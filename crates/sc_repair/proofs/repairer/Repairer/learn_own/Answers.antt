use Rattle.std.proofs.Common.{◌≡◌, ℕ, ◌-◌, subst}
use Rattle.sc_repair.specs.Repairer.{Repairer, places_for, kept_by}
use Rattle.sc_repair.specs.Equations.{RefusesSlot}
use Rattle.sc_repair.proofs.repairer.Repairer.learn_own.Goals as goal

pub returns-clause-refused : goal.returns-clause-refused
returns-clause-refused c refused =
    let e = c.self.inside in
    let s = kept_by e.k e.r e.memory e.deadline e.m e.front e.passed e.next e.past e.end e.claimed e.finished e.known e.block.items e.own in
    let view : s ≡ c.args.self.now = c.self.view_is in
    let code = c.args.code.now in
    let block = c.args.block.now in
    let parity = c.args.parity.now in
    subst (λ (v : Repairer). RefusesSlot v.known code v.m (places_for v.memory v.deadline) (v.passed - v.front) block parity) view
    (subst (λ (m : ℕ). RefusesSlot e.known code m (places_for e.memory e.deadline) (e.passed - e.front) block parity) c.from-m.ensures
    (subst (λ (n : ℕ). RefusesSlot e.known code c.from-m.result n (e.passed - e.front) block parity) c.self.invariant.place_count (c.learn_own-fits.ensures.refuses refused)))
