use Rattle.std.proofs.Common.{ℕ, ◌%◌, ap, ◌∙◌}
use Rattle.std.proofs.lemmas.Nat.{and_mask}
use Rattle.rand_pcg.specs.Lcg.{Lcg, state_after}
use Rattle.sc_trial.specs.Draw.{word_at}
use Rattle.sc_trial.proofs.draw.draw_byte.Goals as goal

pub returns-clause-byte : goal.returns-clause-byte
unfolding word_at state_after
returns-clause-byte c = and_mask c.next_word.result 8 ∙ ap (λ (p : ℕ × Lcg). p.0 % 256) c.next_word.ensures

pub returns-clause-step : goal.returns-clause-step
unfolding state_after
returns-clause-step c = ap (λ (p : ℕ × Lcg). p.1) c.next_word.ensures
