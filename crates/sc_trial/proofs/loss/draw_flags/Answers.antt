use Rattle.std.proofs.Common.{refl, sym, subst, ap, ◌∙◌}
use Rattle.rand_pcg.specs.Pcg.{multiplier_64}
use Rattle.rand_pcg.specs.Lcg.{advance}
use Rattle.sc_channel.specs.Loss.{IsAdmissible}
use Rattle.sc_trial.proofs.DrawSteps.{advance-none, advance-one}
use Rattle.sc_trial.proofs.LossSteps.{generated_loss-admissible, generated_loss-none, generated_loss-more}
use Rattle.sc_trial.proofs.loss.draw_flags.Goals as goal

pub loop-i-init : goal.loop-i-init
loop-i-init c = record { all = refl; flags = generated_loss-none c.args.words.now c.args.channel.now; steps = sym (advance-none c.args.words.now) }

pub draw_flag-requires-clause-before : goal.draw_flag-requires-clause-before
draw_flag-requires-clause-before c =
    subst (IsAdmissible c.args.channel.now) (sym c.loop-i.invariant.flags) (generated_loss-admissible c.args.words.now c.args.channel.now c.loop-i.i)

pub loop-i-preserved : goal.loop-i-preserved
loop-i-preserved c = record {
  all = c.draw_flag.ensures.length ∙ c.loop-i.invariant.all;
  flags = generated_loss-more c.args.words.now c.loop-i.words c.args.channel.now c.loop-i.i _ _ c.loop-i.invariant.flags c.loop-i.invariant.steps
      c.draw_flag.ensures.flag;
  steps = c.draw_flag.ensures.step ∙ ap (advance 64 multiplier_64 1) c.loop-i.invariant.steps ∙ advance-one c.loop-i.i c.args.words.now;
}
