use Rattle.sc_slots.specs.Protected.{protection_of}
use Rattle.sc_slots.proofs.TakeSteps.{record_refused}
use Rattle.sc_slots.proofs.protect.take_one.Goals as goal

pub returns-in-Err-count_record : goal.returns-in-Err-count_record
returns-in-Err-count_record g c =
    let h = rw (c.in-Ok-true.is, c.in-Ok-true.field-0-test) at c.in_ok-next_record_behind.ensures in
    record_refused (protection_of c.args.file.now c.args.size) c.args.index c.args.state.now.taken.rtp _ _ c.next_record_behind.new.rec _ _ _ c.in-Err-count_record.fault h.0 h.1
    c.in-Err-count_record.ensures.0 c.in-Err-count_record.ensures.1
