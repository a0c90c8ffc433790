use Rattle.std.proofs.Common.{ℕ, List, [], ◌∷◌, ◌++◌, Ok, Err, sym, ap, subst}
use Rattle.std.proofs.lemmas.Result.{err_from_is_err_and}
use Rattle.sc_slots.specs.Answers.{slot_in}
use Rattle.sc_slots.specs.Taken.{Taken, taken_slot}
use Rattle.sc_field.specs.Gf256.{gf256_product}
use Rattle.sc_slots.specs.Repair.{IsClash}
use Rattle.sc_repair.specs.declared.repairer.TakeFault.{TakeFault}
use Rattle.sc_repair.specs.declared.repairer.TakeFault.TheVariants.{Clash}
use Rattle.sc_repair.specs.Repairer.{Repairer}
use Rattle.sc_repair.specs.RepairSteps.{PassCounts, PassGives}
use Rattle.sc_repair.specs.Steps.{AllCounts, AllGives, end_of, values_by}
use Rattle.sc_repair.specs.Takes.{Takes}
use Rattle.sc_repair.proofs.SlotSteps.{pass_halts, pass_loses, take_clashes, taken_longer, taken_ready, taken_halts, taken_loses}
use Rattle.sc_repair.proofs.repair.take_slot.Goals as goal

pub returns-in_err-pass_to-clause-gives : goal.returns-in_err-pass_to-clause-gives
returns-in_err-pass_to-clause-gives g c taken text r =
    let failed = err_from_is_err_and c.from_residual.result c.from_residual.ensures.1 in
    rw failed.1 (pass_loses c.args.file.now c.args.repairer.now taken (taken_slot c.args.file.now.code (slot_in c.args.slot.now)) c.args.missed.now c.requires.set c.requires.order r.stands (g.P.Port.told c.args.port.now) (g.P.Port.told c.pass_to.new.port) c.args.pending.now text (c.in_err-pass_to.ensures.gives taken text r))

pub returns-in-Some-clause-gives : goal.returns-in-Some-clause-gives
returns-in-Some-clause-gives g c taken text r =
    pass_halts c.args.file.now c.args.repairer.now taken (taken_slot c.args.file.now.code (slot_in c.args.slot.now)) c.args.missed.now c.requires.set c.requires.order r.stands (g.P.Port.told c.args.port.now) (g.P.Port.told c.pass_to.new.port) c.args.pending.now c.pass_to.new.pending text c.in-Some.bad
    (subst (λ o. PassGives c.args.slot.now.number (g.P.Port.told c.args.port.now) (g.P.Port.told c.pass_to.new.port) c.args.pending.now c.pass_to.new.pending c.args.repairer.now c.pass_to.new.repairer taken c.pass_to.new.missed text (Ok o)) c.in-Some.is (c.in_ok-pass_to.ensures.gives taken text r))

clash_there : (p q : Repairer) (taken : List (Taken ℕ)) (one : Taken ℕ) (fault : TakeFault) → Takes p q taken one (Err fault) → IsClash 0 gf256_product p.k p.m (taken ++ one ∷ []) p.passed
clash_there p q taken one (Clash number) h = h

pub returns-in-Err-clause-gives : goal.returns-in-Err-clause-gives
returns-in-Err-clause-gives g c taken text r =
    let counts = (subst (λ o. PassCounts c.args.slot.now.number c.args.repairer.now c.pass_to.new.repairer c.pass_to.new.missed (Ok o)) c.in-None.is c.in_ok-pass_to.ensures.counts) in
    let x = (subst (λ o. PassGives c.args.slot.now.number (g.P.Port.told c.args.port.now) (g.P.Port.told c.pass_to.new.port) c.args.pending.now c.pass_to.new.pending c.args.repairer.now c.pass_to.new.repairer taken c.pass_to.new.missed text (Ok o)) c.in-None.is (c.in_ok-pass_to.ensures.gives taken text r)) in
    take_clashes c.args.file.now c.args.repairer.now taken (taken_slot c.args.file.now.code (slot_in c.args.slot.now)) c.args.missed.now c.requires.set c.requires.order r.stands c.pass_to.new.repairer (g.P.Port.told c.args.port.now) (g.P.Port.told c.pass_to.new.port) (g.P.Port.told c.pass_to.new.port) c.args.pending.now c.pass_to.new.pending c.pass_to.new.pending text c.pass_to.new.missed counts x _ (sym (ap (λ (x : Repairer). x.passed) counts.0))
    (clash_there c.pass_to.new.repairer c.take_own.new.self taken (taken_slot c.args.file.now.code (slot_in c.args.slot.now)) c.in-Err.field-0 (c.in-Err.ensures.takes taken x.ready.stands))

pub returns-in_err-put_all-clause-gives : goal.returns-in_err-put_all-clause-gives
returns-in_err-put_all-clause-gives g c taken text r =
    let failed = err_from_is_err_and c.from_residual-in_err-put_all.result c.from_residual-in_err-put_all.ensures.1 in
    let counts = (subst (λ o. PassCounts c.args.slot.now.number c.args.repairer.now c.pass_to.new.repairer c.pass_to.new.missed (Ok o)) c.in-None.is c.in_ok-pass_to.ensures.counts) in
    let x = (subst (λ o. PassGives c.args.slot.now.number (g.P.Port.told c.args.port.now) (g.P.Port.told c.pass_to.new.port) c.args.pending.now c.pass_to.new.pending c.args.repairer.now c.pass_to.new.repairer taken c.pass_to.new.missed text (Ok o)) c.in-None.is (c.in_ok-pass_to.ensures.gives taken text r)) in
    let took = c.in-Ok.ensures.takes taken x.ready.stands in
    let far = c.in-Ok.ensures.counts in
    let longer = taken_longer c.args.file.now c.args.repairer.now taken (taken_slot c.args.file.now.code (slot_in c.args.slot.now)) c.args.missed.now c.requires.set c.requires.order r.stands c.pass_to.new.repairer (g.P.Port.told c.args.port.now) (g.P.Port.told c.pass_to.new.port) (g.P.Port.told c.put_all.new.port) c.args.pending.now c.pass_to.new.pending c.put_all.new.pending text c.pass_to.new.missed counts x c.take_own.new.self took.0 far.0 far.1 in
    rw failed.1 (taken_loses c.args.file.now c.args.repairer.now taken (taken_slot c.args.file.now.code (slot_in c.args.slot.now)) c.args.missed.now c.requires.set c.requires.order r.stands c.pass_to.new.repairer (g.P.Port.told c.args.port.now) (g.P.Port.told c.pass_to.new.port) (g.P.Port.told c.put_all.new.port) c.args.pending.now c.pass_to.new.pending c.put_all.new.pending text c.pass_to.new.missed counts x c.take_own.new.self took.0 far.0 far.1
    (c.in_err-put_all.ensures.gives (taken ++ (taken_slot c.args.file.now.code (slot_in c.args.slot.now)) ∷ []) (text ++ x.more) took.0 longer.2 longer.3))

pub returns-in-None-2-clause-gives : goal.returns-in-None-2-clause-gives
returns-in-None-2-clause-gives g c taken text r =
    let counts = (subst (λ o. PassCounts c.args.slot.now.number c.args.repairer.now c.pass_to.new.repairer c.pass_to.new.missed (Ok o)) c.in-None.is c.in_ok-pass_to.ensures.counts) in
    let x = (subst (λ o. PassGives c.args.slot.now.number (g.P.Port.told c.args.port.now) (g.P.Port.told c.pass_to.new.port) c.args.pending.now c.pass_to.new.pending c.args.repairer.now c.pass_to.new.repairer taken c.pass_to.new.missed text (Ok o)) c.in-None.is (c.in_ok-pass_to.ensures.gives taken text r)) in
    let took = c.in-Ok.ensures.takes taken x.ready.stands in
    let far = c.in-Ok.ensures.counts in
    let longer = taken_longer c.args.file.now c.args.repairer.now taken (taken_slot c.args.file.now.code (slot_in c.args.slot.now)) c.args.missed.now c.requires.set c.requires.order r.stands c.pass_to.new.repairer (g.P.Port.told c.args.port.now) (g.P.Port.told c.pass_to.new.port) (g.P.Port.told c.put_all.new.port) c.args.pending.now c.pass_to.new.pending c.put_all.new.pending text c.pass_to.new.missed counts x c.take_own.new.self took.0 far.0 far.1 in
    taken_ready c.args.file.now c.args.repairer.now taken (taken_slot c.args.file.now.code (slot_in c.args.slot.now)) c.args.missed.now c.requires.set c.requires.order r.stands c.pass_to.new.repairer (g.P.Port.told c.args.port.now) (g.P.Port.told c.pass_to.new.port) (g.P.Port.told c.put_all.new.port) c.args.pending.now c.pass_to.new.pending c.put_all.new.pending text c.pass_to.new.missed counts x c.take_own.new.self took.0 far.0 far.1
    c.put_all.new.repairer c.put_all.new.missed (subst (λ o. AllCounts c.take_own.new.self c.put_all.new.repairer (Ok o)) c.in-None-2.is c.in_ok-put_all.ensures.counts) (c.put_all.ensures.stands (taken ++ (taken_slot c.args.file.now.code (slot_in c.args.slot.now)) ∷ []) took.0)
    (subst (λ o. AllGives (values_by c.take_own.new.self (taken ++ (taken_slot c.args.file.now.code (slot_in c.args.slot.now)) ∷ [])) (end_of c.take_own.new.self (taken ++ (taken_slot c.args.file.now.code (slot_in c.args.slot.now)) ∷ [])) (g.P.Port.told c.pass_to.new.port) (g.P.Port.told c.put_all.new.port) c.pass_to.new.pending c.put_all.new.pending c.put_all.new.missed (text ++ x.more) (Ok o)) c.in-None-2.is (c.in_ok-put_all.ensures.gives (taken ++ (taken_slot c.args.file.now.code (slot_in c.args.slot.now)) ∷ []) (text ++ x.more) took.0 longer.2 longer.3))

pub returns-in-Some-2-clause-gives : goal.returns-in-Some-2-clause-gives
returns-in-Some-2-clause-gives g c taken text r =
    let counts = (subst (λ o. PassCounts c.args.slot.now.number c.args.repairer.now c.pass_to.new.repairer c.pass_to.new.missed (Ok o)) c.in-None.is c.in_ok-pass_to.ensures.counts) in
    let x = (subst (λ o. PassGives c.args.slot.now.number (g.P.Port.told c.args.port.now) (g.P.Port.told c.pass_to.new.port) c.args.pending.now c.pass_to.new.pending c.args.repairer.now c.pass_to.new.repairer taken c.pass_to.new.missed text (Ok o)) c.in-None.is (c.in_ok-pass_to.ensures.gives taken text r)) in
    let took = c.in-Ok.ensures.takes taken x.ready.stands in
    let far = c.in-Ok.ensures.counts in
    let longer = taken_longer c.args.file.now c.args.repairer.now taken (taken_slot c.args.file.now.code (slot_in c.args.slot.now)) c.args.missed.now c.requires.set c.requires.order r.stands c.pass_to.new.repairer (g.P.Port.told c.args.port.now) (g.P.Port.told c.pass_to.new.port) (g.P.Port.told c.put_all.new.port) c.args.pending.now c.pass_to.new.pending c.put_all.new.pending text c.pass_to.new.missed counts x c.take_own.new.self took.0 far.0 far.1 in
    taken_halts c.args.file.now c.args.repairer.now taken (taken_slot c.args.file.now.code (slot_in c.args.slot.now)) c.args.missed.now c.requires.set c.requires.order r.stands c.pass_to.new.repairer (g.P.Port.told c.args.port.now) (g.P.Port.told c.pass_to.new.port) (g.P.Port.told c.put_all.new.port) c.args.pending.now c.pass_to.new.pending c.put_all.new.pending text c.pass_to.new.missed counts x c.take_own.new.self took.0 far.0 far.1
    c.in-Some-2.bad
    (subst (λ o. AllGives (values_by c.take_own.new.self (taken ++ (taken_slot c.args.file.now.code (slot_in c.args.slot.now)) ∷ [])) (end_of c.take_own.new.self (taken ++ (taken_slot c.args.file.now.code (slot_in c.args.slot.now)) ∷ [])) (g.P.Port.told c.pass_to.new.port) (g.P.Port.told c.put_all.new.port) c.pass_to.new.pending c.put_all.new.pending c.put_all.new.missed (text ++ x.more) (Ok o)) c.in-Some-2.is (c.in_ok-put_all.ensures.gives (taken ++ (taken_slot c.args.file.now.code (slot_in c.args.slot.now)) ∷ []) (text ++ x.more) took.0 longer.2 longer.3))
