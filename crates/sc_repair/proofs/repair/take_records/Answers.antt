use Rattle.std.proofs.Common.{◌≡◌, refl, sym, subst, arith}
use Rattle.std.proofs.lemmas.Result.{err_from_is_err_and}
use Rattle.sc_rtpdump.specs.Head.{Stops}
use Rattle.sc_repair.proofs.RecordSteps.{Passed-none, Passed-more, takes_all, halts_after, too_many, stops_after}
use Rattle.sc_repair.proofs.repair.take_records.Goals as goal

pub loop-index-init : goal.loop-index-init
loop-index-init g c = record {
  empty = c.requires.empty;
  passed = Passed-none c.args.file.now _ _ _ c.requires.none c.requires.zero;
  going = rw (c.requires.none, c.requires.zero) refl;
  few = rw c.requires.zero (record { strangers = omega arith; repeats = omega arith });
}

pub take_one-requires-clause-empty : goal.take_one-requires-clause-empty
take_one-requires-clause-empty g c = c.loop-index.invariant.empty

pub take_one-requires-clause-going : goal.take_one-requires-clause-going
take_one-requires-clause-going g c = c.loop-index.invariant.going

pub take_one-requires-clause-few : goal.take_one-requires-clause-few
take_one-requires-clause-few g c = c.loop-index.invariant.few

pub returns-in_err-take_one-clause-gives : goal.returns-in_err-take_one-clause-gives
returns-in_err-take_one-clause-gives g c =
    let failed = err_from_is_err_and c.from_residual.result c.from_residual.ensures.1 in
    let x = c.loop-index.invariant.passed in
    rw (failed.1, failed.2) (halts_after c.args.file.now _ _ _ _ _ _ c.in_err-take_one.field-0.0 x (c.in_err-take_one.ensures.gives x.records x.count x.reached.knows))

pub returns-then-not-branch-clause-gives : goal.returns-then-not-branch-clause-gives
returns-then-not-branch-clause-gives g c =
    let x = c.loop-index.invariant.passed in
    let h = rw c.if-not-branch.true at c.in_ok-take_one.ensures.gives x.records x.count x.reached.knows in
    rw (h.2, h.3) (takes_all c.args.file.now _ _ _ _ _ _ x h.0 h.1)

pub loop-index-preserved : goal.loop-index-preserved
loop-index-preserved g c =
    let x = c.loop-index.invariant.passed in
    let h = rw c.if-not-branch.false at c.in_ok-take_one.ensures.gives x.records x.count x.reached.knows in
    let n = rw c.if-not-branch.false at c.in_ok-take_one.ensures.counts in
    record {
      empty = c.in_ok-take_one.ensures.empty;
      passed = Passed-more c.args.file.now _ _ _ _ _ _ _ _ x h;
      going = n.0;
      few = n.1;
    }

pub returns-in-Ok-true-clause-gives : goal.returns-in-Ok-true-clause-gives
returns-in-Ok-true-clause-gives g c =
    let h = rw (c.in-Ok-true.is, c.in-Ok-true.field-0-test) at c.next_record.ensures in
    too_many c.args.file.now _ _ _ _ _ _ c.next_record.new.rec (omega arith) c.loop-index.invariant.passed h.0 h.1

pub returns-in-Ok-false-clause-empty : goal.returns-in-Ok-false-clause-empty
returns-in-Ok-false-clause-empty g c = c.loop-index.invariant.empty

pub returns-in-Ok-false-clause-gives : goal.returns-in-Ok-false-clause-gives
returns-in-Ok-false-clause-gives g c =
    let h = rw (c.in-Ok-false.is, c.in-Ok-false.field-0-test) at c.next_record.ensures in
    takes_all c.args.file.now _ _ _ _ _ _ c.loop-index.invariant.passed h.1.moves h.2

pub returns-in-Ok-false-clause-going : goal.returns-in-Ok-false-clause-going
returns-in-Ok-false-clause-going g c = c.loop-index.invariant.going

pub returns-in-Err-clause-gives : goal.returns-in-Err-clause-gives
returns-in-Err-clause-gives g c =
    let h = rw c.in-Err.is at c.next_record.ensures in
    let last : c.loop-index.index ≡ 8000000 = omega arith in
    let stops = subst (λ n. Stops n (g.P.Port.told c.loop-index.port) (g.P.Port.told c.next_record.new.port) c.in-Err.fault) (sym last) h.1 in
    stops_after c.args.file.now _ _ _ _ _ _ c.in-Err.fault c.loop-index.invariant.passed stops
