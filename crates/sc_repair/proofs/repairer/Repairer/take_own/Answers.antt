use Rattle.std.proofs.Common.{ℕ, ◌+◌, ◌*◌, ◌<◌, [], ◌∷◌, ◌++◌, sym, ap, ap₂, ◌∙◌, subst, arith}
use Rattle.sc_field.specs.Gf256.{gf256_product}
use Rattle.sc_slots.specs.Answers.{slot_in}
use Rattle.sc_slots.specs.Taken.{taken_slot}
use Rattle.sc_slots.specs.Repair.{IsClash}
use Rattle.sc_repair.specs.Repairer.{Repairer, FitsEnd, places_for}
use Rattle.sc_repair.specs.Stands.{Stands}
use Rattle.sc_repair.proofs.TakeSteps.{clash_where_none, taken_where_learned, end_after}
use Rattle.sc_repair.proofs.repairer.Repairer.take_own.Goals as goal

pub returns-then-not-learn_own-clause-takes : goal.returns-then-not-learn_own-clause-takes
returns-then-not-learn_own-clause-takes c taken h =
    let old = c.args.self.now in
    let s = c.give_up.new.self in
    let same = c.give_up.ensures.same in
    let code = c.args.code.now in
    let slot = slot_in c.args.slot.now in
    let k = ap (λ (x : Repairer). x.k) same in
    let r = ap (λ (x : Repairer). x.r) same in
    let m = ap (λ (x : Repairer). x.m) same in
    let memory = ap (λ (x : Repairer). x.memory) same in
    let passed = ap (λ (x : Repairer). x.passed) same in
    let next = ap (λ (x : Repairer). x.next) same in
    let deadline = ap (λ (x : Repairer). x.deadline) same in
    let finished = ap (λ (x : Repairer). x.finished) same in
    let lags = c.requires.lags in
    let near = c.requires.in_time in
    let clash =
    clash_where_none s code slot c.learn_own.ensures.code (c.requires.symbols ∙ sym k) (c.requires.parities ∙ sym r) (omega arith) (c.requires.width ∙ sym m)
    (c.requires.block ∙ ap₂ (λ (a b : ℕ). a * b) (sym k) (sym m)) (c.requires.parity ∙ ap₂ (λ (a b : ℕ). a * b) (sym r) (sym m)) c.learn_own.ensures.block_bytes c.learn_own.ensures.parity_bytes
    c.give_up.ensures.sound (finished ∙ c.requires.goes_on) (omega arith) c.give_up.ensures.room (c.requires.number ∙ sym passed)
    (c.learn_own.ensures.refused c.if-not-learn_own.true) taken (c.give_up.ensures.stands taken h) in
    subst (λ (x : Repairer). IsClash 0 gf256_product x.k x.m (taken ++ taken_slot code slot ∷ []) x.passed) same clash

pub returns-clause-takes : goal.returns-clause-takes
returns-clause-takes c taken h =
    let old = c.args.self.now in
    let s = c.give_up.new.self in
    let l = c.learn_own.new.self in
    let n = c.note_taken.new.self in
    let same = c.give_up.ensures.same in
    let code = c.args.code.now in
    let slot = slot_in c.args.slot.now in
    let k = ap (λ (x : Repairer). x.k) same in
    let r = ap (λ (x : Repairer). x.r) same in
    let m = ap (λ (x : Repairer). x.m) same in
    let memory = ap (λ (x : Repairer). x.memory) same in
    let passed = ap (λ (x : Repairer). x.passed) same in
    let next = ap (λ (x : Repairer). x.next) same in
    let deadline = ap (λ (x : Repairer). x.deadline) same in
    let finished = ap (λ (x : Repairer). x.finished) same in
    let lags = c.requires.lags in
    let near = c.requires.in_time in
    let told = c.learn_own.ensures.same in
    let noted = c.note_taken.ensures.same in
    let fits : FitsEnd s.is_claimed s.end slot.number slot.end = subst (λ (x : Repairer). FitsEnd x.is_claimed x.end slot.number slot.end) (sym same) c.requires.fits in
    let learned_passed = ap (λ (x : Repairer). x.passed) told in
    let now = c.give_up.ensures.stands taken h in
    let sound = c.learn_own.ensures.sound in
    let both =
    taken_where_learned s code slot c.learn_own.ensures.code (c.requires.symbols ∙ sym k) (c.requires.parities ∙ sym r) (omega arith) (c.requires.width ∙ sym m)
    (c.requires.block ∙ ap₂ (λ (a b : ℕ). a * b) (sym k) (sym m)) (c.requires.parity ∙ ap₂ (λ (a b : ℕ). a * b) (sym r) (sym m)) c.learn_own.ensures.block_bytes c.learn_own.ensures.parity_bytes
    c.give_up.ensures.sound (finished ∙ c.requires.goes_on) (omega arith) c.give_up.ensures.room (c.requires.number ∙ sym passed)
    l.known n.is_claimed n.end (c.learn_own.ensures.taken c.if-not-learn_own.false)
    (sound.cols ∙ ap (λ (x : Repairer). places_for x.memory x.deadline * x.k) told) (sound.width ∙ ap (λ (x : Repairer). x.m) told) c.learn_own.ensures.solvable fits
    taken
    (end_after s.is_claimed n.is_claimed s.end n.end taken (taken_slot code slot) (λ t x. (let lt : t.number < s.passed = now.history.below t x in let at = c.requires.number in omega arith)) fits
    (λ none. (let to = c.note_taken.ensures.source none in (to.0, to.1 ∙ ap (λ (x : Repairer). x.is_claimed) told))) c.note_taken.ensures.flush)
    now in (
      subst (λ (x : Repairer). Stands x (taken ++ taken_slot code slot ∷ []))
          (ap₂ (λ (p q : ℕ). record s { passed = p; past = q; is_claimed = n.is_claimed; end = n.end; known = l.known }) (ap (λ (p : ℕ). p + 1) (sym learned_passed) ∙ sym c.note_taken.ensures.passed) (ap (λ (p : ℕ). p + 1) (sym learned_passed) ∙ sym c.note_taken.ensures.past)
          ∙ ap (λ (x : Repairer). record x { passed = n.passed; past = n.past; end = n.end; is_claimed = n.is_claimed }) (sym told) ∙ sym noted)
          both.0,
      subst (λ (x : Repairer). IsClash 0 gf256_product x.k x.m (taken ++ taken_slot code slot ∷ []) x.passed → ⊥) same both.1,
    )
