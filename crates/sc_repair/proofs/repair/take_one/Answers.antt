use Rattle.sc_repair.proofs.RecordSteps.{loses_record, flush_lost, takes_record, record_halts}
use Rattle.sc_repair.proofs.repair.take_one.Goals as goal

pub returns-in_default-clause-gives : goal.returns-in_default-clause-gives
returns-in_default-clause-gives g c = λ records count k.
    let read = rw (c.in-Ok-true.is, c.in-Ok-true.field-0-test) at c.next_record.ensures in
    let lost = rw c.requires.empty at c.in_default.ensures.gives records count k in
    loses_record c.args.file.now records c.next_record.new.rec _ _ read.0 read.1 _ lost

pub returns-in_default-flush-clause-gives : goal.returns-in_default-flush-clause-gives
returns-in_default-flush-clause-gives g c = λ records count k.
    let read = rw (c.in-Ok-true.is, c.in-Ok-true.field-0-test) at c.next_record.ensures in
    flush_lost c.args.file.now records c.next_record.new.rec _ _ read.0 read.1 _ _ _ _ _ _ _ c.in-Ok.end c.requires.empty k.accepted (c.in-Ok.ensures.gives records count k) c.in_default-flush.ensures

pub returns-in-Ok-end-clause-gives : goal.returns-in-Ok-end-clause-gives
returns-in-Ok-end-clause-gives g c = λ records count k.
    let read = rw (c.in-Ok-true.is, c.in-Ok-true.field-0-test) at c.next_record.ensures in
    let gives = rw (c.in-Ok-end.is, c.requires.empty) at c.in-Ok.ensures.gives records count k in
    takes_record c.args.file.now records c.next_record.new.rec _ _ read.0 read.1 _ _ _ _ _ gives c.in-Ok-flush.ensures.1

pub returns-in-Err-end-clause-gives : goal.returns-in-Err-end-clause-gives
returns-in-Err-end-clause-gives g c = λ records count k.
    let read = rw (c.in-Ok-true.is, c.in-Ok-true.field-0-test) at c.next_record.ensures in
    let gives = rw c.in-Err-end.is at c.in-Ok.ensures.gives records count k in
    record_halts c.args.file.now records c.next_record.new.rec _ _ read.0 read.1 _ _ _ _ c.take_record.new.kept c.take_record.new.counts c.in-Err-end.fault c.requires.empty gives c.in-Ok-flush.ensures.1
