use Rattle.sc_rtpdump.proofs.NextSteps.{next_found, next_cut, next_failed}
use Rattle.sc_rtpdump.proofs.next.next_record.Goals as goal

pub returns-in-Ok-true : goal.returns-in-Ok-true
returns-in-Ok-true g c =
    let h = rw c.in-Some.is at c.in_ok-head.ensures in
    next_found c.args.index _ _ _ c.in-Some.head c.fill.new.self h.2 (rw c.in-Ok-true.field-0-test at c.in-Ok-true.ensures)

pub returns-in-Ok-false : goal.returns-in-Ok-false
returns-in-Ok-false g c =
    let h = rw c.in-Some.is at c.in_ok-head.ensures in
    next_cut c.args.index _ _ _ c.in-Some.head c.fill.new.self h.2 h.1 (rw c.in-Ok-false.field-0-test at c.in-Ok-false.ensures)

pub returns-in-Err : goal.returns-in-Err
returns-in-Err g c =
    let h = rw c.in-Some.is at c.in_ok-head.ensures in
    next_failed c.args.index _ _ _ c.in-Some.head c.fill.new.self _ h.2 h.1 c.in-Err.ensures
