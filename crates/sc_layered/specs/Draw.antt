-- Draws: the words of PCG32 (O'Neill, "PCG: a family of simple fast space-efficient statistically good algorithms for
-- random number generation") that is started from a number on the sequence 54. Which sequence, and how a draw is made of a
-- word, are of this project.
use Rattle.std.specs.Prelude.{ℕ, ◌+◌, ◌%◌, List, map}
use Rattle.std.specs.List.{range_with_len}
use Rattle.rand_pcg.specs.Lcg.{Lcg, started, increment_of, advance}
use Rattle.rand_pcg.specs.Pcg.{multiplier_64, pcg32}

-- the generator that is started from a number
abbrev pub generator : ℕ → Lcg
generator seed = started 64 multiplier_64 seed (increment_of 64 54)

-- the word of this number, counted from 0: the one that the generator gives after so many steps
unfoldable pub word_at : Lcg → ℕ → ℕ
word_at g j = (pcg32 (advance 64 multiplier_64 j g)).0

-- the nonzero byte that is drawn by that word
abbrev pub nonzero_at : Lcg → ℕ → ℕ
nonzero_at g j = 1 + word_at g j % 255

-- the nonzero draws of so many words, from word 0 on
abbrev pub nonzero_draws : Lcg → ℕ → List ℕ
nonzero_draws g count = map (nonzero_at g) (range_with_len 0 count)

-- so many nonzero draws, from word 0 on, of the generator that is started from this number
pub record DrawsOf : Type 0 where
  pub seed : ℕ
  pub count : ℕ
