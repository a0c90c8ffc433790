use Rattle.std.proofs.lemmas.Result.{err_from_is_err_and}
use Rattle.sc_rtpdump.proofs.ThinSteps.{Carries-way, stops_behind, head_carried, head_lost, carries_end}
use Rattle.sc_rtpdump.proofs.BehindSteps.{behind_found, behind_cut, behind_failed}
use Rattle.sc_rtpdump.proofs.next.next_record_behind.Goals as goal

pub returns-in-Ok-None : goal.returns-in-Ok-None
returns-in-Ok-None g c =
    let h = rw c.in-Ok-None.field-0-is at c.in-Ok-None.ensures in
    (carries_end _ _ _ _ _ (Carries-way _ _ _ _ _ _ c.in_ok-make_way.ensures) h.0, h.1)

pub returns-in-Err : goal.returns-in-Err
returns-in-Err g c = stops_behind c.args.index _ _ _ c.in-Err.fault _ _ (Carries-way _ _ _ _ _ _ c.in_ok-make_way.ensures) c.in-Err.ensures

pub returns-in_err-make_way-2 : goal.returns-in_err-make_way-2
returns-in_err-make_way-2 g c =
    let failed = err_from_is_err_and c.from_residual-in_err-make_way-2.result c.from_residual-in_err-make_way-2.ensures.1 in
    let h = rw c.in-Ok-Some.field-0-is at c.in-Ok-Some.ensures in
    rw failed.1 (head_lost _ _ _ _ _ _ _ _ (Carries-way _ _ _ _ _ _ c.in_ok-make_way.ensures) h.2 c.in_err-make_way-2.ensures)

pub returns-in-Ok-true : goal.returns-in-Ok-true
returns-in-Ok-true g c =
    let h = rw c.in-Ok-Some.field-0-is at c.in-Ok-Some.ensures in
    let f = rw c.in-Ok-true.field-0-test at c.in-Ok-true.ensures in (
      f.0,
      behind_found _ _ _ c.in-Ok-Some.head c.fill.new.self _ _ (head_carried _ _ _ _ _ _ _ _ (Carries-way _ _ _ _ _ _ c.in_ok-make_way.ensures) h.2 (Carries-way _ _ _ _ _ _ c.in_ok-make_way-2.ensures)) f,
      c.in_ok-make_way-2.ensures.fits,
    )

pub returns-in-Ok-false : goal.returns-in-Ok-false
returns-in-Ok-false g c =
    let h = rw c.in-Ok-Some.field-0-is at c.in-Ok-Some.ensures in
    behind_cut c.args.index _ _ _ c.in-Ok-Some.head c.fill.new.self _ _ (head_carried _ _ _ _ _ _ _ _ (Carries-way _ _ _ _ _ _ c.in_ok-make_way.ensures) h.2 (Carries-way _ _ _ _ _ _ c.in_ok-make_way-2.ensures)) h.1
    (rw c.in-Ok-false.field-0-test at c.in-Ok-false.ensures)

pub returns-in-Err-fill : goal.returns-in-Err-fill
returns-in-Err-fill g c =
    let h = rw c.in-Ok-Some.field-0-is at c.in-Ok-Some.ensures in
    behind_failed c.args.index _ _ _ c.in-Ok-Some.head c.fill.new.self _ _ _ (head_carried _ _ _ _ _ _ _ _ (Carries-way _ _ _ _ _ _ c.in_ok-make_way.ensures) h.2 (Carries-way _ _ _ _ _ _ c.in_ok-make_way-2.ensures)) h.1
    c.in-Err-fill.ensures
