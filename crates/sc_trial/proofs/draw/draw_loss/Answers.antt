use Rattle.std.proofs.Common.{ℕ, ◌%◌, ◌==◌, ap}
use Rattle.rand_pcg.specs.Lcg.{Lcg, state_after}
use Rattle.sc_trial.specs.Draw.{word_at}
use Rattle.sc_trial.proofs.draw.draw_loss.Goals as goal

pub returns-clause-drawn : goal.returns-clause-drawn
unfolding word_at state_after
returns-clause-drawn c = ap (λ (p : ℕ × Lcg). p.0 % 3 == 0) c.next_word.ensures

pub returns-clause-step : goal.returns-clause-step
unfolding state_after
returns-clause-step c = ap (λ (p : ℕ × Lcg). p.1) c.next_word.ensures
