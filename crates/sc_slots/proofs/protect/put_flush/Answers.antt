use Rattle.std.proofs.Common.{refl, ◌∙◌, arith}
use Rattle.std.proofs.lemmas.Result.{err_from_is_err_and}
use Rattle.sc_slots.specs.ProtectSteps.{IsOf}
use Rattle.sc_slots.proofs.FlushSteps.{Flushed-none, Flushed-more, flush_failed}
use Rattle.sc_slots.proofs.protect.put_flush.Goals as goal

pub loop-j-init : goal.loop-j-init
loop-j-init g c = record { code = refl; width = refl; flushed = λ p records of deadline k. Flushed-none p _ records _ _ _ k }

pub returns-in_err-make_way : goal.returns-in_err-make_way
returns-in_err-make_way g c =
    let failed = err_from_is_err_and c.from_residual.result c.from_residual.ensures.1 in
    rw failed.1 (λ p of deadline records k.
    flush_failed p _ _ _ records c.loop-j.j _ _ _ _ (omega (arith, c.loop-j-test.true, c.t-j-end.ensures.number, deadline)) (c.loop-j.invariant.flushed p records of deadline k) c.in_err-make_way.ensures)

pub loop-j-preserved : goal.loop-j-preserved
loop-j-preserved g c = record {
  code = c.put_blank.ensures.code ∙ c.loop-j.invariant.code;
  width = c.put_blank.ensures.width ∙ c.loop-j.invariant.width;
  flushed = λ p records of deadline k.
      let here : IsOf p c.loop-j.maker = record { code = c.loop-j.invariant.code ∙ of.code; width = c.loop-j.invariant.width ∙ of.width } in
      Flushed-more p _ _ _ records c.loop-j.j _ _ c.args.taken.now _ _ _ _ _ _ _ (omega (arith, c.loop-j-test.true, c.t-j-end.ensures.number, deadline)) here k
      (c.loop-j.invariant.flushed p records of deadline k) c.in_ok-make_way.ensures c.put_blank.ensures;
}
