-- The classes of losses that a check looks at, for a channel whose window is longer than its deadline, and their order.
use Rattle.std.specs.Prelude.{◌≡◌, ℕ, zero as none, suc, ◌+◌, ◌-◌, ◌<◌, Bool, true, false, List, [], ◌∷◌, ◌++◌, length, map, replicate, slice_index_or}
use Rattle.sc_channel.specs.Channel.{ChannelNumbers}
use Rattle.sc_channel.specs.Flags.{IsSet, set_count}

-- the number of ways to choose n of a number of places (Pascal's triangle)
abbrev pub choose : ℕ → ℕ → ℕ
choose places none = 1
choose none (suc n) = 0
choose (suc places) (suc n) = choose places n + choose places (suc n)

-- The lists of flags for a number of places of which n are set, in lexicographic order of the set places: a list with its
-- first flag set comes before one with it clear.
abbrev pub flags_with : ℕ → ℕ → List (List Bool)
flags_with none none = [] ∷ []
flags_with none (suc n) = []
flags_with (suc places) none = map (λ flags. false ∷ flags) (flags_with places none)
flags_with (suc places) (suc n) = map (λ flags. true ∷ flags) (flags_with places n) ++ map (λ flags. false ∷ flags) (flags_with places (suc n))

-- the flags 0 to b - 1 are set, of deadline + 1
abbrev pub burst_class : ChannelNumbers → List Bool
burst_class channel = replicate channel.b true ++ replicate (channel.t + 1 - channel.b) false

-- A class is the burst from flag 0 on, or deadline + 1 flags of which flag 0 and n - 1 others are set.
pub data IsClass (channel : ChannelNumbers) (class : List Bool) : Type 0 where
  burst : class ≡ burst_class channel → IsClass channel class
  spread : length class ≡ channel.t + 1 → IsSet class 0 → set_count class ≡ channel.n → IsClass channel class

-- the classes of a channel in order, where equal ones are listed again: the burst, then the others
abbrev pub classes_of : ChannelNumbers → List (List Bool)
classes_of channel = burst_class channel ∷ map (λ flags. true ∷ flags) (flags_with channel.t (channel.n - 1))

-- how many these are
abbrev pub class_count : ChannelNumbers → ℕ
class_count channel = choose channel.t (channel.n - 1) + 1

-- Of two lists of flags with equally many set, a is before b in lexicographic order of the sorted set places: at the first
-- place where they differ, a is set.
pub record SetsFirst (a b : List Bool) : Type 0 where
  pub place : ℕ
  pub same : (i : ℕ) → i < place → slice_index_or a i false ≡ slice_index_or b i false
  pub set_in_a : IsSet a place
  pub clear_in_b : slice_index_or b place true ≡ false
