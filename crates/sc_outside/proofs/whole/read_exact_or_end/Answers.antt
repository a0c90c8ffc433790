use Rattle.std.proofs.Common.{◌≡◌, ◌+◌, ◌-◌, ◌++◌, arith, length, take, sym, subst, ap, ◌∙◌, length-take-le, append-nil}
use Rattle.std.proofs.lemmas.Result.{err_from_is_err_and}
use Rattle.sc_outside.specs.Port.{Takes}
use Rattle.sc_outside.proofs.FaultsLaws.{Rose-earlier}
use Rattle.sc_outside.proofs.MovesLaws.{Takes-trans, Takes-one, Takes-failed}
use Rattle.sc_outside.proofs.PartSteps.{take-put_part, length-put_part}
use Rattle.sc_outside.proofs.whole.read_exact_or_end.Goals as goal
use borrow.Rule.Slice.PartMut.{put_mid}

pub loop-filled-preserved : goal.loop-filled-preserved
loop-filled-preserved g c =
    let filled = c.loop-filled.filled in
    let step = c.in_ok-taken.ensures in
    let within = c.loop-filled.invariant.bound in
    let whole = put_mid filled (length c.loop-filled.buf - filled) c.loop-filled.buf c.read.new.buf in
    let joined : take (filled + c.in_ok-taken.taken) whole ≡ take filled c.loop-filled.buf ++ take c.in_ok-taken.taken c.read.new.buf =
    take-put_part filled c.in_ok-taken.taken _ c.loop-filled.buf c.read.new.buf within step.bound in
    record {
      bound = omega (arith, length-put_part filled _ c.loop-filled.buf c.read.new.buf c.read.auto.buf, step.bound);
      takes = subst (Takes _ _) (sym joined) (Takes-trans _ _ _ _ _ c.loop-filled.invariant.takes (Takes-one _ _ _ _ step));
      read_faults = step.read_faults ∙ c.loop-filled.invariant.read_faults;
    }

pub returns-in_err-taken-clause-err : goal.returns-in_err-taken-clause-err
returns-in_err-taken-clause-err g c =
    let failed = err_from_is_err_and c.from_residual.result c.from_residual.ensures.1 in
    let taken = take c.loop-filled.filled c.loop-filled.buf in
    let within = c.loop-filled.invariant.bound in
    let so_far = c.loop-filled.invariant.takes in
    let last = c.in_err-taken.ensures in
    let count : length taken ≡ c.loop-filled.filled = length-take-le c.loop-filled.filled c.loop-filled.buf within in
    rw failed.1 (record {
      taken = taken;
      short = omega (arith, count, length-put_part c.loop-filled.filled _ c.loop-filled.buf c.read.new.buf c.read.auto.buf);
      takes = subst (Takes _ _) (append-nil taken) (Takes-trans _ _ _ _ _ so_far (Takes-failed _ _ last));
      rose = Rose-earlier _ _ _ so_far.moves.read_faults last.rose;
    })

pub returns-then-taken-eq0-clause-ok : goal.returns-then-taken-eq0-clause-ok
returns-then-taken-eq0-clause-ok g c =
    let filled = c.loop-filled.filled in
    let step = c.in_ok-taken.ensures in
    let within = c.loop-filled.invariant.bound in
    let whole = put_mid filled (length c.loop-filled.buf - filled) c.loop-filled.buf c.read.new.buf in
    let joined : take (filled + c.in_ok-taken.taken) whole ≡ take filled c.loop-filled.buf ++ take c.in_ok-taken.taken c.read.new.buf =
    take-put_part filled c.in_ok-taken.taken _ c.loop-filled.buf c.read.new.buf within step.bound in
    let same : filled + c.in_ok-taken.taken ≡ filled = omega (arith, c.if-taken-eq0.true) in
    record {
      bound = omega (arith, length-put_part filled _ c.loop-filled.buf c.read.new.buf c.read.auto.buf);
      takes = subst (Takes _ _) (sym joined ∙ ap (λ n. take n whole) same) (Takes-trans _ _ _ _ _ c.loop-filled.invariant.takes (Takes-one _ _ _ _ step));
      end = λ _. step.end c.if-taken-eq0.true;
      read_faults = step.read_faults ∙ c.loop-filled.invariant.read_faults;
    }
