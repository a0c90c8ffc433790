-- The generated loss of so many slots: each is lost where its word says so and the channel admits it. Of this project.
use Rattle.std.specs.Prelude.{◌≡◌, ◌==◌, ◌&&◌, ◌↔◌, ℕ, zero, suc, ◌%◌, ◌<◌, Bool, true, is_none, List, [], ◌∷◌, ◌++◌, length, take}
use Rattle.rand_pcg.specs.Lcg.{Lcg}
use Rattle.sc_channel.specs.Channel.{ChannelNumbers}
use Rattle.sc_channel.specs.Flags.{IsSet}
use Rattle.sc_channel.specs.Loss.{IsAdmissible, bad_window}
use Rattle.sc_trial.specs.Draw.{word_at}

-- the slot behind these flags is lost: the word of its number is divisible by 3, and the loss so far with its flag set is
-- admissible
pub record IsLostNext (g : Lcg) (channel : ChannelNumbers) (before : List Bool) : Type 0 where
  pub drawn : word_at g (length before) % 3 ≡ 0
  pub admitted : IsAdmissible channel (before ++ true ∷ [])

-- each slot of the loss is lost exactly where this holds behind the flags before it
pub record IsGeneratedLoss (g : Lcg) (channel : ChannelNumbers) (loss : List Bool) : Type 0 where
  pub slot : (i : ℕ) → i < length loss → IsSet loss i ↔ IsLostNext g channel (take i loss)

-- a test of admissible losses
abbrev pub is_admissible : ChannelNumbers → List Bool → Bool
is_admissible channel loss = is_none (bad_window channel loss)

-- the flag of the slot behind these
abbrev pub next_flag : Lcg → ChannelNumbers → List Bool → Bool
next_flag g channel before = (word_at g (length before) % 3 == 0) && is_admissible channel (before ++ true ∷ [])

-- the loss of so many slots
unfoldable pub generated_loss : Lcg → ChannelNumbers → ℕ → List Bool
generated_loss g channel zero = []
generated_loss g channel (suc n) = generated_loss g channel n ++ next_flag g channel (generated_loss g channel n) ∷ []

-- it is the one loss of its length whose slots are lost as they are to be
abbrev pub GeneratedLossesAreOne : Type 0
GeneratedLossesAreOne = (g : Lcg) (channel : ChannelNumbers) (loss : List Bool) → IsGeneratedLoss g channel loss ↔ (loss ≡ generated_loss g channel (length loss))
