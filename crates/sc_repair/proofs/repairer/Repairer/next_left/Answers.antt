use Rattle.std.proofs.Common.{◌≡◌, ℕ, ◌+◌, Bool, List, length, Option, Some, None, sym, ap, ◌∙◌, subst, arith}
use Rattle.sc_matrix.proofs.LayoutLaws.{items_written}
use Rattle.sc_slots.specs.Taken.{known_end}
use Rattle.sc_repair.specs.declared.repairer.Put.{Put}
use Rattle.sc_repair.specs.Repairer.{Repairer, kept_by}
use Rattle.sc_repair.specs.Stands.{Stands, IsLeft}
use Rattle.sc_repair.specs.Equations.{FindsLeft}
use Rattle.sc_repair.proofs.CallSteps.{Stands-left, Stands-block, found_from, put_of, left_found, known_end-claimed, known_end-open}
use Rattle.sc_repair.proofs.repairer.Repairer.next_left.Goals as goal
use Rattle.sc_repair.proofs.repairer.Repairer.next_left.Goals.{then-self, else-self, then-whole, else-whole}

pub returns-in-None-clause-left : goal.returns-in-None-clause-left
returns-in-None-clause-left c taken h =
    let e = c.self.inside in
    let s = kept_by e.k e.r e.memory e.deadline e.m e.front e.passed e.next e.past e.end e.claimed e.finished e.known e.block.items e.own in
    let view : s ≡ c.args.self.now = c.self.view_is in
    let hs = subst (λ (x : Repairer). Stands x taken) (sym view) h in
    let new = c.find_left-found.new.block in
    let end : known_end taken ≡ c.if-self.end = elim c.if-self.branch [
      | then-self w ↦ known_end-claimed s taken w.if-self.true hs ∙ sym w.end-is
      | else-self w ↦ known_end-open s taken w.if-self.false hs ∙ sym w.end-is
    ] in
    let found = subst (λ (m : ℕ). FindsLeft e.known e.k m e.front c.if-self.end e.next e.past new c.find_left-found.result) c.from-m.ensures c.find_left-found.ensures.found in
    subst (λ (x : Repairer). IsLeft x taken new None) view
    (subst (λ (o : Option (ℕ × Bool)). IsLeft s taken new (put_of o)) c.in-None.is (left_found s c.if-self.end c.self.invariant.sound taken hs end new c.find_left-found.result found))

pub returns-in-None-clause-stands : goal.returns-in-None-clause-stands
returns-in-None-clause-stands c taken h =
    let e = c.self.inside in
    let s = kept_by e.k e.r e.memory e.deadline e.m e.front e.passed e.next e.past e.end e.claimed e.finished e.known e.block.items e.own in
    Stands-block s _ taken (subst (λ (x : Repairer). Stands x taken) (sym c.self.view_is) h)

pub returns-after-whole-clause-left : goal.returns-after-whole-clause-left
returns-after-whole-clause-left c taken h =
    let e = c.self.inside in
    let s = kept_by e.k e.r e.memory e.deadline e.m e.front e.passed e.next e.past e.end e.claimed e.finished e.known e.block.items e.own in
    let view : s ≡ c.args.self.now = c.self.view_is in
    let hs = subst (λ (x : Repairer). Stands x taken) (sym view) h in
    let new = c.find_left-found.new.block in
    let written = items_written e.block new (c.find_left-found.ensures.block ∙ ap length c.as_mut_slice-block.ensures.value) in
    let end : known_end taken ≡ c.if-self.end = elim c.if-self.branch [
      | then-self w ↦ known_end-claimed s taken w.if-self.true hs ∙ sym w.end-is
      | else-self w ↦ known_end-open s taken w.if-self.false hs ∙ sym w.end-is
    ] in
    let found = subst (λ (m : ℕ). FindsLeft e.known e.k m e.front c.if-self.end e.next e.past new c.find_left-found.result) c.from-m.ensures c.find_left-found.ensures.found in
    let here : put_of c.find_left-found.result ≡ Some c.if-whole.result = elim c.if-whole.branch [
      | then-whole w ↦ ap put_of c.in-Some.is ∙ ap (λ (b : Bool). put_of (Some (c.in-Some.slot, b))) w.if-whole.true ∙ ap Some (sym w.result-is)
      | else-whole w ↦ ap put_of c.in-Some.is ∙ ap (λ (b : Bool). put_of (Some (c.in-Some.slot, b))) w.if-whole.false ∙ ap Some (sym w.result-is)
    ] in
    subst (λ (b : List ℕ). IsLeft c.args.self.now taken b (Some c.if-whole.result)) (sym written)
    (subst (λ (x : Repairer). IsLeft x taken new (Some c.if-whole.result)) view
    (subst (λ (o : Option Put). IsLeft s taken new o) here (left_found s c.if-self.end c.self.invariant.sound taken hs end new c.find_left-found.result found)))

pub returns-after-whole-clause-stands : goal.returns-after-whole-clause-stands
returns-after-whole-clause-stands c taken h =
    let e = c.self.inside in
    let s = kept_by e.k e.r e.memory e.deadline e.m e.front e.passed e.next e.past e.end e.claimed e.finished e.known e.block.items e.own in
    let view : s ≡ c.args.self.now = c.self.view_is in
    let hs = subst (λ (x : Repairer). Stands x taken) (sym view) h in
    let ended = ap (λ (x : Repairer). x.finished) view ∙ c.requires in
    let found = subst (λ (o : Option (ℕ × Bool)). FindsLeft e.known e.k c.from-m.result e.front c.if-self.end e.next e.past c.find_left-found.new.block o) c.in-Some.is c.find_left-found.ensures.found in
    let from = found_from e.known e.k c.from-m.result e.front c.if-self.end e.next e.past c.find_left-found.new.block c.in-Some.slot c.in-Some.whole found in
    Stands-left s (c.in-Some.slot + 1) _ taken ended (omega arith) hs
