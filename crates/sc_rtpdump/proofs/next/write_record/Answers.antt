use Rattle.std.proofs.lemmas.Result.{err_from_is_err_and, on_ok_weaker, on_err_weaker}
use Rattle.sc_rtpdump.proofs.NextSteps.{record_whole, record_first, record_then}
use Rattle.sc_rtpdump.proofs.next.write_record.Goals as goal

pub returns-in_err-write_whole-clause-err : goal.returns-in_err-write_whole-clause-err
returns-in_err-write_whole-clause-err g c =
    let failed = err_from_is_err_and c.from_residual.result c.from_residual.ensures.1 in
    rw failed.1 (record_first _ _ c.args.plen c.args.offset c.args.body.now c.to_bytes.result c.to_bytes.ensures c.in_err-write_whole.ensures.err)

pub returns-clause-ok : goal.returns-clause-ok
returns-clause-ok g c =
    on_ok_weaker c.write_whole-2.result (record_whole _ _ _ c.args.plen c.args.offset c.args.body.now c.to_bytes.result c.to_bytes.ensures c.in_ok-write_whole.ensures.ok) c.write_whole-2.ensures.ok

pub returns-clause-err : goal.returns-clause-err
returns-clause-err g c =
    on_err_weaker c.write_whole-2.result (record_then _ _ _ c.args.plen c.args.offset c.args.body.now c.to_bytes.result c.to_bytes.ensures c.in_ok-write_whole.ensures.ok) c.write_whole-2.ensures.err
