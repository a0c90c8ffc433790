use Rattle.std.proofs.Common.{sym, ◌∙◌, subst}
use Rattle.sc_slots.specs.Slot.{IsSlotRecord}
use Rattle.sc_slots.specs.Answers.{head_in}
use Rattle.sc_slots.proofs.SlotLaws.{slot_behind-record}
use Rattle.sc_slots.proofs.slot.read_slot.Goals as goal

pub returns-clause-slot : goal.returns-clause-slot
returns-clause-slot c =
    let a = c.args in
    subst (IsSlotRecord a.k a.r a.deadline a.rec.now) (sym c.slot_of.ensures)
    (slot_behind-record a.k a.r a.deadline a.rec.now (head_in c.in-Some.head) c.in-Some.rest.now c.bytes-whole.ensures.fits c.in-Some.ensures.some
    (sym c.from.ensures ∙ c.if-from-k.false) (sym c.from-2.ensures ∙ c.if-from-r.false) (rw c.if-has_bad_shape.false at c.has_bad_shape.ensures))
