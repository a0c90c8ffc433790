use Rattle.std.proofs.Common.{◌≡◌, ◌-◌, subst, arith}
use Rattle.std.proofs.lemmas.Result.{err_from_is_err_and}
use Rattle.sc_trial.specs.Generated.{GivesOrHolds}
use Rattle.sc_trial.proofs.DrawSteps.{advance-no_draws, advance-more_draws}
use Rattle.sc_trial.proofs.RecordSteps.{text, holds-none, holds-more, failed-here}
use Rattle.sc_trial.proofs.capture.put_records.Goals as goal

pub loop-i-init : goal.loop-i-init
loop-i-init g c = record {
  holds = holds-none c.args.words.now c.args.pending.now c.args.size _;
  steps = advance-no_draws (c.args.size - 12) c.args.words.now;
}

pub returns-in_err-make_way-clause-err : goal.returns-in_err-make_way-clause-err
returns-in_err-make_way-clause-err g c =
    let failed = err_from_is_err_and c.from_residual.result c.from_residual.ensures.1 in
    rw failed.1 (failed-here c.args.words.now c.args.pending.now c.loop-i.i c.args.count c.args.size _ _ _ _ _ (omega arith) c.loop-i.invariant.holds c.in_err-make_way.ensures)

pub loop-i-preserved : goal.loop-i-preserved
loop-i-preserved g c = record {
  holds = holds-more c.args.words.now c.loop-i.words c.args.pending.now c.loop-i.i c.args.size _ _ _ _ _ _ _ _ c.loop-i.invariant.steps
      c.loop-i.invariant.holds c.in_ok-make_way.ensures c.put_record.ensures.waits;
  steps = advance-more_draws c.loop-i.i (c.args.size - 12) c.args.words.now c.loop-i.words _ c.loop-i.invariant.steps c.put_record.ensures.steps;
}

pub returns-clause-ok : goal.returns-clause-ok
returns-clause-ok g c =
    let told = g.P.Port.told in
    let all : c.loop-i.i ≡ c.args.count = omega arith in
    subst (λ n. GivesOrHolds (told c.args.port.now) (told c.loop-i.port) (text c.args.words.now c.args.pending.now n c.args.size) c.loop-i.pending) all c.loop-i.invariant.holds
