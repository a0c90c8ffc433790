use Rattle.std.proofs.Common.{◌≡◌}
use Rattle.rand_pcg.specs.Lcg.{advance}
use Rattle.rand_pcg.specs.Pcg.{multiplier_64}
use Rattle.sc_layered.specs.Draw.{generator, nonzero_draws}
use Rattle.sc_layered.proofs.draw.nonzero_draws.Given as goal

-- the draws so far, and so many steps were made
abbrev pub invariant-loop-place : goal.invariant-loop-place
invariant-loop-place l = record {
  draws : l.draws.items ≡ nonzero_draws (generator l.fn.seed) l._place;
  steps : l.words ≡ advance 64 multiplier_64 l._place (generator l.fn.seed);
}
