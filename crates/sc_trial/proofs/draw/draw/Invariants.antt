use Rattle.std.proofs.Common.{◌≡◌, ℕ, ◌%◌, ◌<◌, slice_index_or}
use Rattle.rand_pcg.specs.Lcg.{advance}
use Rattle.rand_pcg.specs.Pcg.{multiplier_64}
use Rattle.sc_trial.specs.Draw.{word_at}
use Rattle.sc_trial.proofs.draw.draw.Given as goal

-- the bytes so far are drawn, and so many steps were made
abbrev pub invariant-loop-byte : goal.invariant-loop-byte
invariant-loop-byte l = record {
  bytes : (k : ℕ) → k < l.byte-index → slice_index_or l.bytes k 0 ≡ word_at l.fn.words k % 256;
  steps : l.words ≡ advance 64 multiplier_64 l.byte-index l.fn.words;
}
