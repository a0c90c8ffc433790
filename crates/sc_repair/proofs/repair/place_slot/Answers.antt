use Rattle.std.proofs.Common.{arith}
use Rattle.sc_slots.specs.Answers.{slot_in}
use Rattle.sc_repair.specs.Repairing.{taken_of}
use Rattle.sc_repair.proofs.PlaceSteps.{repeat_gives, unfit_gives, place_gives}
use Rattle.sc_repair.proofs.repair.place_slot.Goals as goal

pub returns-then-slot-passed-clause-gives : goal.returns-then-slot-passed-clause-gives
returns-then-slot-passed-clause-gives g c slots text rests width =
    repeat_gives c.args.file.now slots c.args.repairer.now (slot_in c.args.slot.now) c.args.counts.now.missed text c.requires.set rests width (g.P.Port.told c.args.port.now) c.args.pending.now c.requires.limit
    (omega (arith, c.if-slot-passed.true, c.passed.ensures.number))

pub returns-in-Ok-clause-gives : goal.returns-in-Ok-clause-gives
returns-in-Ok-clause-gives g c slots text rests width =
    place_gives c.args.file.now slots c.args.repairer.now (slot_in c.args.slot.now) c.args.counts.now.missed text c.requires.set rests width c.requires.limit (omega (arith, c.if-slot-passed.false, c.passed.ensures.number))
    c.in-Ok.ensures.answer c.requires.slot.by_deadline c.requires.slot.by_number c.take_slot.new.repairer (g.P.Port.told c.args.port.now) (g.P.Port.told c.take_slot.new.port) c.args.pending.now c.take_slot.new.pending c.take_slot.new.missed
    c.take_slot.result c.take_slot.ensures.counts (c.take_slot.ensures.gives (taken_of c.args.file.now slots) text rests.ready)

pub returns-in-Err-clause-gives : goal.returns-in-Err-clause-gives
returns-in-Err-clause-gives g c slots text rests width =
    unfit_gives c.args.file.now slots c.args.repairer.now (slot_in c.args.slot.now) c.args.counts.now.missed text c.requires.set rests width c.in-Err.unfit (g.P.Port.told c.args.port.now) c.args.pending.now c.requires.limit
    (omega (arith, c.if-slot-passed.false, c.passed.ensures.number)) c.in-Err.ensures.answer
