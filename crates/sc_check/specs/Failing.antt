-- The classes of a channel that a code doesn't decide, by their indices.
use Rattle.std.specs.Prelude.{ℕ, ◌≤◌, ◌<◌, List, [], Bool, All, Option, Some, None, MatchOption, min, slice_index_or}
use Rattle.sc_field.specs.Gf256.{gf256_product}
use Rattle.sc_channel.specs.Channel.{ChannelNumbers}
use Rattle.sc_channel.specs.Classes.{classes_of, class_count}
use Rattle.sc_code.specs.Code.{Code}
use Rattle.sc_code.specs.Determined.{IsDecided}

-- the class of an index
abbrev pub class_at : ChannelNumbers → ℕ → List Bool
class_at channel index = slice_index_or (classes_of channel) index []

-- the class of an index decides, over GF(256)
abbrev pub DecidesAt : Code ℕ → ChannelNumbers → ℕ → Type 0
DecidesAt code channel index = IsDecided 0 gf256_product code (class_at channel index)

-- every class decides
abbrev pub DecidesAll : Code ℕ → ChannelNumbers → Type 0
DecidesAll code channel = All (IsDecided 0 gf256_product code) (classes_of channel)

-- of the indices from `from` to `to` - 1 the least whose class doesn't decide
pub record IsFirstIn (code : Code ℕ) (channel : ChannelNumbers) (from to index : ℕ) : Type 0 where
  pub from_on : from ≤ index
  pub below : index < to
  pub fails : ¬ DecidesAt code channel index
  pub earlier : (i : ℕ) → from ≤ i → i < index → DecidesAt code channel i

-- that index, or none where each of these classes decides
abbrev pub FirstIn : Code ℕ → ChannelNumbers → ℕ → ℕ → Option ℕ → Type 0
FirstIn code channel from to found = MatchOption found ((i : ℕ) → from ≤ i → i < to → DecidesAt code channel i) (IsFirstIn code channel from to)

-- the same, where the first class decides
abbrev pub FirstBehind : Code ℕ → ChannelNumbers → ℕ → ℕ → Option ℕ → Type 0
FirstBehind code channel from to found = DecidesAt code channel 0 → FirstIn code channel from to found

-- of all indices the least whose class doesn't decide
pub record IsFirstFailing (code : Code ℕ) (channel : ChannelNumbers) (index : ℕ) : Type 0 where
  pub in_range : index < class_count channel
  pub fails : ¬ DecidesAt code channel index
  pub earlier : (i : ℕ) → i < index → DecidesAt code channel i

-- the lesser of two indices, or the one that there is
abbrev pub least_found : Option ℕ → Option ℕ → Option ℕ
least_found None other = other
least_found (Some a) None = Some a
least_found (Some a) (Some b) = Some (min a b)
