use Rattle.std.proofs.lemmas.Result.{err_from_is_err_and, on_ok_weaker, on_err_weaker}
use Rattle.sc_slots.proofs.WriteSteps.{puts_three, fails_first, fails_second, fails_third}
use Rattle.sc_slots.proofs.slot.write_slot.Goals as goal

pub returns-in_err-write_whole-clause-err : goal.returns-in_err-write_whole-clause-err
returns-in_err-write_whole-clause-err g c =
    let failed = err_from_is_err_and c.from_residual.result c.from_residual.ensures.1 in
    rw failed.1 (fails_first c.slot_head-head.result c.args.slot.now.block.now c.args.slot.now.parity.now _ c.slot_head-head.ensures _ _ c.in_err-write_whole.ensures.err)

pub returns-in_err-write_whole-2-clause-err : goal.returns-in_err-write_whole-2-clause-err
returns-in_err-write_whole-2-clause-err g c =
    let failed = err_from_is_err_and c.from_residual-in_err-write_whole-2.result c.from_residual-in_err-write_whole-2.ensures.1 in
    rw failed.1 (fails_second c.slot_head-head.result c.args.slot.now.block.now c.args.slot.now.parity.now _ c.slot_head-head.ensures _ _ _ c.in_ok-write_whole.ensures.ok c.in_err-write_whole-2.ensures.err)

pub returns-clause-ok : goal.returns-clause-ok
returns-clause-ok g c =
    on_ok_weaker c.write_whole-3.result
    (puts_three c.slot_head-head.result c.args.slot.now.block.now c.args.slot.now.parity.now _ c.slot_head-head.ensures _ _ _ _ c.in_ok-write_whole.ensures.ok c.in_ok-write_whole-2.ensures.ok) c.write_whole-3.ensures.ok

pub returns-clause-err : goal.returns-clause-err
returns-clause-err g c =
    on_err_weaker c.write_whole-3.result
    (fails_third c.slot_head-head.result c.args.slot.now.block.now c.args.slot.now.parity.now _ c.slot_head-head.ensures _ _ _ _ c.in_ok-write_whole.ensures.ok c.in_ok-write_whole-2.ensures.ok) c.write_whole-3.ensures.err
