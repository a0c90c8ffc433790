use Rattle.std.proofs.lemmas.Result.{err_from_is_err_and}
use Rattle.sc_rtpdump.proofs.ThinSteps.{Carries-way, stops_behind, head_carried, head_lost, carries_end, body_taken}
use Rattle.sc_rtpdump.proofs.thin.take_one.Goals as goal

pub returns-in-Ok-None : goal.returns-in-Ok-None
returns-in-Ok-None g c =
    let h = rw c.in-Ok-None.field-0-is at c.in-Ok-None.ensures in
    (carries_end _ _ _ _ _ (Carries-way _ _ _ _ _ _ c.in_ok-make_way.ensures) h.0, h.1)

pub returns-in-Err : goal.returns-in-Err
returns-in-Err g c = stops_behind c.args.index _ _ _ c.in-Err.fault _ _ (Carries-way _ _ _ _ _ _ c.in_ok-make_way.ensures) c.in-Err.ensures

pub returns-in_err-make_way-2 : goal.returns-in_err-make_way-2
returns-in_err-make_way-2 g c =
    let failed = err_from_is_err_and c.from_residual-in_err-make_way-2.result c.from_residual-in_err-make_way-2.ensures.1 in
    let h = rw c.in-Ok-Some.field-0-is at c.in-Ok-Some.ensures in
    rw failed.1 (head_lost _ _ _ _ _ _ _ _ (Carries-way _ _ _ _ _ _ c.in_ok-make_way.ensures) h.2 c.in_err-make_way-2.ensures)

pub returns : goal.returns
returns g c =
    let h = rw c.in-Ok-Some.field-0-is at c.in-Ok-Some.ensures in
    body_taken c.args.index c.args.lost c.in-Ok-Some.head _ _ _ _ _ _ _
    (head_carried _ _ _ _ _ _ _ _ (Carries-way _ _ _ _ _ _ c.in_ok-make_way.ensures) h.2 (Carries-way _ _ _ _ _ _ c.in_ok-make_way-2.ensures)) c.take_body.ensures
