use Rattle.std.proofs.Common.{◌≡◌, sym, subst, arith}
use Rattle.std.proofs.lemmas.Result.{err_from_is_err_and}
use Rattle.sc_rtpdump.specs.Thin.{StopsBehind}
use Rattle.sc_slots.specs.Protected.{protection_of}
use Rattle.sc_slots.proofs.EndSteps.{Passed-none, Passed-more, Passed-few, takes_all, halts_after, loses_after, fits_kept, too_many, stops_after}
use Rattle.sc_slots.proofs.protect.take_records.Goals as goal

pub loop-index-init : goal.loop-index-init
loop-index-init g c = record {
  passed = Passed-none (protection_of c.args.file.now c.args.size) _ _ _ _ c.requires.none c.requires.empty;
  of = c.requires.of;
  fits = c.requires.fits;
}

pub take_one-requires-clause-few : goal.take_one-requires-clause-few
take_one-requires-clause-few g c = Passed-few (protection_of c.args.file.now c.args.size) _ _ _ _ _ _ c.loop-index.invariant.passed

pub returns-in_err-take_one : goal.returns-in_err-take_one
returns-in_err-take_one g c =
    let failed = err_from_is_err_and c.from_residual.result c.from_residual.ensures.1 in
    rw failed.1 (loses_after (protection_of c.args.file.now c.args.size) _ _ _ _ _ _ _ c.loop-index.invariant.passed c.in_err-take_one.ensures)

pub returns-in-Ok-false : goal.returns-in-Ok-false
returns-in-Ok-false g c =
    let h = rw (c.in-Ok-false.is, c.in-Ok-false.field-0-test) at c.in_ok-take_one.ensures in
    rw (h.2, h.3) (takes_all (protection_of c.args.file.now c.args.size) _ _ _ _ _ _ _ _ (omega arith) c.loop-index.invariant.passed c.loop-index.invariant.of h.0 h.1)

pub returns-in-Err : goal.returns-in-Err
returns-in-Err g c =
    let h = rw c.in-Err.is at c.in_ok-take_one.ensures in
    halts_after (protection_of c.args.file.now c.args.size) _ _ _ _ _ _ _ _ c.in-Err.fault c.loop-index.invariant.passed h

pub loop-index-preserved : goal.loop-index-preserved
loop-index-preserved g c =
    let h = rw (c.in-Ok-true.is, c.in-Ok-true.field-0-test) at c.in_ok-take_one.ensures in
    let p = protection_of c.args.file.now c.args.size in
    record {
      passed = Passed-more p _ _ _ _ _ _ _ _ _ _ c.loop-index.invariant.passed h;
      of = h.is_of;
      fits = fits_kept p c.args.size _ _ c.loop-index.invariant.of h.is_of c.loop-index.invariant.fits;
    }

pub returns-in_err-next_record_behind : goal.returns-in_err-next_record_behind
returns-in_err-next_record_behind g c =
    let failed = err_from_is_err_and c.from_residual-in_err-next_record_behind.result c.from_residual-in_err-next_record_behind.ensures.1 in
    rw failed.1 (loses_after (protection_of c.args.file.now c.args.size) _ _ _ _ _ _ _ c.loop-index.invariant.passed c.in_err-next_record_behind.ensures)

pub returns-in-Ok-true-2 : goal.returns-in-Ok-true-2
returns-in-Ok-true-2 g c =
    let h = rw (c.in-Ok-true-2.is, c.in-Ok-true-2.field-0-test) at c.in_ok-next_record_behind.ensures in
    too_many (protection_of c.args.file.now c.args.size) _ _ _ _ _ _ c.next_record_behind.new.rec _ _ (omega arith) c.loop-index.invariant.passed h.0 h.1

pub returns-in-Ok-false-2 : goal.returns-in-Ok-false-2
returns-in-Ok-false-2 g c =
    let h = rw (c.in-Ok-false-2.is, c.in-Ok-false-2.field-0-test) at c.in_ok-next_record_behind.ensures in
    takes_all (protection_of c.args.file.now c.args.size) _ _ _ _ _ _ _ _ (omega arith) c.loop-index.invariant.passed c.loop-index.invariant.of h.0 h.1

pub returns-in-Err-2 : goal.returns-in-Err-2
returns-in-Err-2 g c =
    let h = rw c.in-Err-2.is at c.in_ok-next_record_behind.ensures in
    let last : c.loop-index.index ≡ 8000000 = omega arith in
    stops_after (protection_of c.args.file.now c.args.size) _ _ _ _ _ _ _ _ c.in-Err-2.fault c.loop-index.invariant.passed
    (subst (λ n. StopsBehind n (g.P.Port.told c.loop-index.port) (g.P.Port.told c.next_record_behind.new.port) c.loop-index.state.pending c.next_record_behind.new.pending c.in-Err-2.fault) (sym last) h)
