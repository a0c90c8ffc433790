use Rattle.std.proofs.Common.{◌≡◌, length, take}
use Rattle.rand_pcg.specs.Lcg.{advance}
use Rattle.rand_pcg.specs.Pcg.{multiplier_64}
use Rattle.sc_trial.specs.Loss.{generated_loss}
use Rattle.sc_trial.proofs.loss.draw_flags.Given as goal

-- the flags so far are those of the generated loss, and so many steps were made
abbrev pub invariant-loop-i : goal.invariant-loop-i
invariant-loop-i l = record {
  all : length l.flags ≡ length l.fn.flags;
  flags : take l.i l.flags ≡ generated_loss l.fn.words l.channel l.i;
  steps : l.words ≡ advance 64 multiplier_64 l.i l.fn.words;
}
