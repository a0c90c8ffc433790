use Rattle.std.proofs.Common.{ℕ, ◌+◌, ◌%◌, ap}
use Rattle.rand_pcg.specs.Lcg.{Lcg, state_after}
use Rattle.sc_layered.specs.Draw.{word_at}
use Rattle.sc_layered.proofs.draw.draw_nonzero.Goals as goal

pub returns-clause-byte : goal.returns-clause-byte
unfolding word_at state_after
returns-clause-byte c = ap (λ (p : ℕ × Lcg). 1 + p.0 % 255) c.next_word.ensures

pub returns-clause-step : goal.returns-clause-step
unfolding state_after
returns-clause-step c = ap (λ (p : ℕ × Lcg). p.1) c.next_word.ensures
