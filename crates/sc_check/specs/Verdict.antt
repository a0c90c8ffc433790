-- What a check tells of a code and a channel.
use Rattle.std.specs.Prelude.{◌≡◌, ℕ, ◌+◌, List, [], ◌∷◌, Bool, All, length, map}
use Rattle.sc_field.specs.Gf256.{gf256_product}
use Rattle.sc_channel.specs.Channel.{ChannelNumbers}
use Rattle.sc_code.specs.Code.{Code}
use Rattle.sc_code.specs.Determined.{Meets, IsRefutation}
use Rattle.sc_window.specs.Difference.{IsLeastByteDifference}
use Rattle.sc_check.specs.Failing.{class_at, IsFirstFailing}
use Rattle.sc_check.specs.declared.verdict.Verdict.{Verdict}
use Rattle.sc_check.specs.declared.verdict.Verdict.TheVariants.{Meets as meets, Fails}

-- the stream of width 1 whose symbols have these numbers
abbrev pub width_one : List (List ℕ) → List (List (List ℕ))
width_one numbers = map (map (λ number. number ∷ [])) numbers

-- The least refutation of a code: the first class that doesn't decide, and the least stream that its kept slots don't tell from
-- the stream of zeros. They refute that the code meets the channel.
pub record IsLeastRefutation (code : Code ℕ) (channel : ChannelNumbers) (class : ℕ) (loss : List Bool) (stream : List (List ℕ)) : Type 0 where
  pub first : IsFirstFailing code channel class
  pub loss_is : loss ≡ class_at channel class
  pub flags : length loss ≡ channel.t + 1
  pub blocks : length stream ≡ channel.t + 1
  pub symbols : All (λ block. length block ≡ code.k) stream
  pub least : IsLeastByteDifference 0 gf256_product code loss (width_one stream)
  pub refutes : IsRefutation 0 gf256_product code channel loss (width_one stream)

-- a code meets a channel, or the least refutation is told
abbrev pub IsVerdict : Code ℕ → ChannelNumbers → Verdict → Type 0
IsVerdict code channel meets = Meets 0 gf256_product code channel
IsVerdict code channel (Fails class loss stream) = IsLeastRefutation code channel class loss stream
