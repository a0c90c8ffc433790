use Rattle.std.proofs.Common.{◌≡◌, ℕ, ◌-◌, ◌<◌, List, length, Option, Some, None, refl, sym, ap, ◌∙◌, subst, arith}
use Rattle.sc_field.specs.Gf256.{gf256_product}
use Rattle.sc_matrix.specs.Layout.{cut}
use Rattle.sc_matrix.proofs.LayoutLaws.{items_written}
use Rattle.sc_slots.specs.Repair.{IsSettledAs, IsMissed, IsSettled}
use Rattle.sc_repair.specs.Repairer.{Repairer, kept_by}
use Rattle.sc_repair.specs.Stands.{Stands}
use Rattle.sc_repair.specs.Equations.{IsBlockAt}
use Rattle.sc_repair.proofs.CallSteps.{Stands-put, Stands-block, settled_where_known, missed_where_open, not_settled_where_open}
use Rattle.sc_repair.proofs.repairer.Repairer.next_settled.Goals as goal

pub returns-then-read_block-clause-next : goal.returns-then-read_block-clause-next
returns-then-read_block-clause-next c taken h =
    let e = c.self.inside in
    let s = kept_by e.k e.r e.memory e.deadline e.m e.front e.passed e.next e.past e.end e.claimed e.finished e.known e.block.items e.own in
    let view : s ≡ c.args.self.now = c.self.view_is in
    let sound = c.self.invariant.sound in
    let in_passed = sound.in_passed in
    let on = ap (λ (x : Repairer). x.finished) view ∙ c.requires in
    let hs = subst (λ (x : Repairer). Stands x taken) (sym view) h in
    let new = c.read_block.new.block in
    let written = items_written e.block new (c.read_block.ensures.block ∙ ap length c.as_mut_slice-block.ensures.value) in
    let known = subst (λ (m : ℕ). IsBlockAt e.known e.k m new (e.next - e.front)) c.from-m.ensures (c.read_block.ensures.known c.if-read_block.true) in
    subst (λ (b : List ℕ). (e.next ≡ c.args.self.now.next) × IsSettledAs 0 gf256_product c.args.self.now.k c.args.self.now.m c.args.self.now.deadline taken c.args.self.now.passed c.args.self.now.next (cut c.args.self.now.k c.args.self.now.m b)) (sym written)
    (subst (λ (x : Repairer). (e.next ≡ x.next) × IsSettledAs 0 gf256_product x.k x.m x.deadline taken x.passed x.next (cut x.k x.m new)) view
    (refl, settled_where_known s sound taken hs e.next (omega arith) (omega (arith, c.if-slot-self.false)) on refl new known))

pub returns-then-read_block-clause-stands : goal.returns-then-read_block-clause-stands
returns-then-read_block-clause-stands c taken h =
    let e = c.self.inside in
    let s = kept_by e.k e.r e.memory e.deadline e.m e.front e.passed e.next e.past e.end e.claimed e.finished e.known e.block.items e.own in
    let view : s ≡ c.args.self.now = c.self.view_is in
    let sound = c.self.invariant.sound in
    let in_passed = sound.in_passed in
    let on = ap (λ (x : Repairer). x.finished) view ∙ c.requires in
    let hs = subst (λ (x : Repairer). Stands x taken) (sym view) h in
    let new = c.read_block.new.block in
    let known = subst (λ (m : ℕ). IsBlockAt e.known e.k m new (e.next - e.front)) c.from-m.ensures (c.read_block.ensures.known c.if-read_block.true) in
    let lt : e.next < e.passed = omega (arith, c.if-slot-self.false) in
    Stands-put s sound taken hs e.next (omega arith) lt on refl (Some (cut e.k e.m new)) _ (settled_where_known s sound taken hs e.next (omega arith) lt on refl new known)

pub returns-then-self-slot-clause-next : goal.returns-then-self-slot-clause-next
returns-then-self-slot-clause-next c taken h =
    let e = c.self.inside in
    let s = kept_by e.k e.r e.memory e.deadline e.m e.front e.passed e.next e.past e.end e.claimed e.finished e.known e.block.items e.own in
    let view : s ≡ c.args.self.now = c.self.view_is in
    let sound = c.self.invariant.sound in
    let in_passed = sound.in_passed in
    let on = ap (λ (x : Repairer). x.finished) view ∙ c.requires in
    let hs = subst (λ (x : Repairer). Stands x taken) (sym view) h in
    subst (λ (x : Repairer). (value : Option (List (List ℕ))) → IsSettled 0 gf256_product x.k x.m x.deadline taken x.passed x.next value → ⊥) view
    (not_settled_where_open s sound taken hs e.next (omega arith) (omega (arith, c.if-slot-self.false)) on refl (c.read_block.ensures.unknown c.if-read_block.false) (omega (arith, c.if-self-slot.true)))

pub returns-then-self-slot-clause-stands : goal.returns-then-self-slot-clause-stands
returns-then-self-slot-clause-stands c taken h =
    let e = c.self.inside in
    let s = kept_by e.k e.r e.memory e.deadline e.m e.front e.passed e.next e.past e.end e.claimed e.finished e.known e.block.items e.own in
    Stands-block s _ taken (subst (λ (x : Repairer). Stands x taken) (sym c.self.view_is) h)

pub returns-clause-next : goal.returns-clause-next
returns-clause-next c taken h =
    let e = c.self.inside in
    let s = kept_by e.k e.r e.memory e.deadline e.m e.front e.passed e.next e.past e.end e.claimed e.finished e.known e.block.items e.own in
    let view : s ≡ c.args.self.now = c.self.view_is in
    let sound = c.self.invariant.sound in
    let in_passed = sound.in_passed in
    let on = ap (λ (x : Repairer). x.finished) view ∙ c.requires in
    let hs = subst (λ (x : Repairer). Stands x taken) (sym view) h in
    subst (λ (x : Repairer). (e.next ≡ x.next) × IsMissed 0 gf256_product x.k x.m x.deadline taken x.passed x.next) view
    (refl, missed_where_open s sound taken hs e.next (omega arith) (omega (arith, c.if-slot-self.false)) on refl (c.read_block.ensures.unknown c.if-read_block.false) (omega (arith, c.if-self-slot.false)))

pub returns-clause-stands : goal.returns-clause-stands
returns-clause-stands c taken h =
    let e = c.self.inside in
    let s = kept_by e.k e.r e.memory e.deadline e.m e.front e.passed e.next e.past e.end e.claimed e.finished e.known e.block.items e.own in
    let view : s ≡ c.args.self.now = c.self.view_is in
    let sound = c.self.invariant.sound in
    let in_passed = sound.in_passed in
    let on = ap (λ (x : Repairer). x.finished) view ∙ c.requires in
    let hs = subst (λ (x : Repairer). Stands x taken) (sym view) h in
    let lt : e.next < e.passed = omega (arith, c.if-slot-self.false) in
    Stands-put s sound taken hs e.next (omega arith) lt on refl None _ (missed_where_open s sound taken hs e.next (omega arith) lt on refl (c.read_block.ensures.unknown c.if-read_block.false) (omega (arith, c.if-self-slot.false)))
