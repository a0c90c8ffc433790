use Rattle.std.proofs.Common.{refl, subst}
use Rattle.std.proofs.lemmas.Result.{err_from_is_err_and}
use Rattle.sc_slots.specs.Answers.{slot_in}
use Rattle.sc_repair.specs.RepairSteps.{Resumes}
use Rattle.sc_repair.proofs.ComeSteps.{many_gives, come_gives, come_counts}
use Rattle.sc_repair.proofs.repair.come_in.Goals as goal

pub returns-then-slot-ge-MAX_SLOTS-clause-gives : goal.returns-then-slot-ge-MAX_SLOTS-clause-gives
returns-then-slot-ge-MAX_SLOTS-clause-gives g c slots text keeps =
    many_gives c.args.file.now slots (slot_in c.args.slot.now) c.args.kept.now c.args.counts.now text _ _ c.requires.going c.if-slot-ge-MAX_SLOTS.true keeps

pub returns-clause-gives : goal.returns-clause-gives
returns-clause-gives g c slots text keeps =
    let resumes : Resumes c.args.file.now c.args.kept.now c.args.counts.now.missed c.args.slot.now.m c.in-Ok.repairer =
    subst (λ k. Resumes c.args.file.now k c.args.counts.now.missed c.args.slot.now.m c.in-Ok.repairer) c.take.ensures.value c.in-Ok.ensures.resumes in
    let rests = resumes slots text (slot_in c.args.slot.now) refl keeps in
    come_gives c.args.file.now c.args.kept.now c.args.counts.now c.place_slot.new.counts c.in-Ok.repairer c.place_slot.new.repairer (slot_in c.args.slot.now) resumes slots text
    _ _ _ _ c.in_ok-end.end keeps c.in_ok-end.ensures.counts (c.in_ok-end.ensures.gives slots text rests.0 rests.1)

pub returns-clause-counts : goal.returns-clause-counts
returns-clause-counts g c =
    let resumes : Resumes c.args.file.now c.args.kept.now c.args.counts.now.missed c.args.slot.now.m c.in-Ok.repairer =
    subst (λ k. Resumes c.args.file.now k c.args.counts.now.missed c.args.slot.now.m c.in-Ok.repairer) c.take.ensures.value c.in-Ok.ensures.resumes in
    come_counts c.args.file.now c.args.kept.now c.args.counts.now c.place_slot.new.counts c.in-Ok.repairer c.place_slot.new.repairer (slot_in c.args.slot.now) resumes c.in_ok-end.end c.in_ok-end.ensures.counts

pub returns-in_err-end-clause-gives : goal.returns-in_err-end-clause-gives
returns-in_err-end-clause-gives g c slots text keeps =
    let resumes : Resumes c.args.file.now c.args.kept.now c.args.counts.now.missed c.args.slot.now.m c.in-Ok.repairer =
    subst (λ k. Resumes c.args.file.now k c.args.counts.now.missed c.args.slot.now.m c.in-Ok.repairer) c.take.ensures.value c.in-Ok.ensures.resumes in
    let rests = resumes slots text (slot_in c.args.slot.now) refl keeps in
    let failed = err_from_is_err_and c.from_residual.result c.from_residual.ensures.1 in
    rw failed.1 (c.in_err-end.ensures.gives slots text rests.0 rests.1)
