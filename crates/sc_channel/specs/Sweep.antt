-- What the one walk over a loss keeps: at flag e it looks at the last w of the first e flags.
use Rattle.std.specs.Prelude.{◌≡◌, ℕ, ◌+◌, ◌-◌, ◌<◌, Bool, List, take, drop}
use Rattle.sc_channel.specs.Flags.{IsSet, set_count}

-- the last w of the first e flags, or all e where there are fewer
abbrev pub recent : ℕ → ℕ → List Bool → List Bool
recent w e flags = drop (e - w) (take e flags)

-- so many of the last w of the first e flags are set
pub record IsRecentCount (w : ℕ) (flags : List Bool) (e set : ℕ) : Type 0 where
  pub sum_is : set_count (take (e - w) flags) + set ≡ set_count (take e flags)

-- `after` is one past the last set flag that lies at least b places before place e - 1, or 0 where there is none
pub record IsEarlyEnd (b : ℕ) (flags : List Bool) (e after : ℕ) : Type 0 where
  pub is_set : 0 < after → IsSet flags (after - 1)
  pub is_early : 0 < after → after + b < e + 1
  pub is_last : (place : ℕ) → IsSet flags place → place + b < e → place < after
