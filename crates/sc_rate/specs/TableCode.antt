-- Causal codes of any kind, as tables: what is sent in a slot may depend on all numbers up to that slot, in any way. So a
-- code may be nonlinear, may change with time, needn't be systematic, and may remember everything. Of this project.
use Rattle.std.specs.Prelude.{◌≡◌, ℕ, ◌+◌, ◌<◌, ◌≤◌, Bool, false, List, length, take, slice_index, slice_index_or}
use Rattle.std.specs.List.{All}
use Rattle.sc_channel.specs.Channel.{ChannelNumbers}
use Rattle.sc_channel.specs.Loss.{IsAdmissible}

-- numbers of an alphabet of a symbols
abbrev pub AreSymbols : ℕ → List ℕ → Type 0
AreSymbols a numbers = All (λ number. number < a) numbers

-- A table code of a horizon, with a symbols in and b symbols out: an entry below b for every list of 1 to `horizon` numbers
-- below a. Its values elsewhere are of no account.
pub record IsTable (a b horizon : ℕ) (table : List ℕ → ℕ) : Type 0 where
  pub entry : (numbers : List ℕ) → AreSymbols a numbers → 1 ≤ length numbers → length numbers ≤ horizon → table numbers < b

-- what is sent in a slot: the entry of the numbers up to that slot
abbrev pub sent : (List ℕ → ℕ) → List ℕ → ℕ → ℕ
sent table numbers slot = table (take (slot + 1) numbers)

-- for xs and for ys the same is sent in every slot that the loss keeps
abbrev pub ArriveAlike : (List ℕ → ℕ) → List Bool → List ℕ → List ℕ → Type 0
ArriveAlike table loss xs ys =
    (slot : ℕ) → slot < length loss → slice_index_or loss slot false ≡ false → sent table xs slot ≡ sent table ys slot

-- under a loss of the slots up to the deadline of slot t, what arrives determines number t
pub record IsNumberDetermined (channel : ChannelNumbers) (a : ℕ) (table : List ℕ → ℕ) (t : ℕ) (loss : List Bool) : Type 0 where
  pub same : (xs ys : List ℕ) → length xs ≡ t + channel.t + 1 → length ys ≡ t + channel.t + 1 → AreSymbols a xs → AreSymbols a ys
      → ArriveAlike table loss xs ys → slice_index xs t ≡ slice_index ys t

-- The table meets the channel up to its horizon: every number whose deadline lies within it is determined by then, under
-- every admissible loss.
pub record TableMeets (channel : ChannelNumbers) (a horizon : ℕ) (table : List ℕ → ℕ) : Type 0 where
  pub determined : (t : ℕ) (loss : List Bool) → t + channel.t < horizon → length loss ≡ t + channel.t + 1 → IsAdmissible channel loss
      → IsNumberDetermined channel a table t loss
