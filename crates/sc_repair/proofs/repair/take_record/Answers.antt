use Rattle.std.proofs.Common.{length, refl, ap, ◌∙◌, subst, arith}
use Rattle.sc_slots.specs.Answers.{reading, slot_in}
use Rattle.sc_slots.specs.Slot.{wrong_code, bad_shape}
use Rattle.sc_repair.specs.declared.repair.RepairEnd.TheVariants.{WrongCode, BadShape}
use Rattle.sc_repair.specs.Repairing.{values_text, slots_in, values_so_far, refusal}
use Rattle.sc_repair.specs.RepairSteps.{IsRefused}
use Rattle.sc_repair.proofs.ReadSteps.{stranger_gives, reading_gives, slot_gives}
use Rattle.sc_repair.proofs.repair.take_record.Goals as goal

pub returns-in-Stranger-clause-gives : goal.returns-in-Stranger-clause-gives
returns-in-Stranger-clause-gives g c records count k =
    stranger_gives c.args.file.now records c.args.rec.now (omega (arith, count, c.requires.index)) c.args.kept.now c.args.counts.now _ _ _ (c.read.ensures.reads ∙ ap reading c.in-Stranger.is) k refl refl refl

pub returns-in-WrongCode-clause-gives : goal.returns-in-WrongCode-clause-gives
returns-in-WrongCode-clause-gives g c records count k =
    subst (λ i. IsRefused (refusal c.args.file.now (length records) (slots_in c.args.file.now records) c.args.rec.now) (g.P.Port.told c.args.port.now) (g.P.Port.told c.args.port.now) c.args.pending.now c.args.pending.now (values_text (values_so_far c.args.file.now records)) (WrongCode i)) count
    (reading_gives c.args.file.now records c.args.rec.now (omega (arith, count, c.requires.index)) (WrongCode (length records)) wrong_code (g.P.Port.told c.args.port.now) c.args.pending.now (c.read.ensures.reads ∙ ap reading c.in-WrongCode.is) refl)

pub returns-in-BadShape-clause-gives : goal.returns-in-BadShape-clause-gives
returns-in-BadShape-clause-gives g c records count k =
    subst (λ i. IsRefused (refusal c.args.file.now (length records) (slots_in c.args.file.now records) c.args.rec.now) (g.P.Port.told c.args.port.now) (g.P.Port.told c.args.port.now) c.args.pending.now c.args.pending.now (values_text (values_so_far c.args.file.now records)) (BadShape i)) count
    (reading_gives c.args.file.now records c.args.rec.now (omega (arith, count, c.requires.index)) (BadShape (length records)) bad_shape (g.P.Port.told c.args.port.now) c.args.pending.now (c.read.ensures.reads ∙ ap reading c.in-BadShape.is) refl)

pub returns-in-Slot-clause-gives : goal.returns-in-Slot-clause-gives
returns-in-Slot-clause-gives g c records count k =
    slot_gives c.args.file.now records c.args.rec.now (omega (arith, count, c.requires.index)) (slot_in c.in-Slot.slot) (c.read.ensures.reads ∙ ap reading c.in-Slot.is) c.args.kept.now c.come_in.new.kept c.args.counts.now c.come_in.new.counts
    _ _ _ _ c.come_in.result k c.come_in.ensures.counts (c.come_in.ensures.gives (slots_in c.args.file.now records) (values_text (values_so_far c.args.file.now records)) k.keeps)
