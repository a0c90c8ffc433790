-- Admissible losses, after the sliding-window erasure channel of Badr and others. Spans with gaps, and windows
-- that are cut short by the ends of a loss, are this project's own.
use Rattle.std.specs.Prelude.{◌≡◌, ℕ, suc, ◌<◌, ◌≤◌, ◌||◌, Bool, Option, Some, None, List, [], ◌∷◌, ◌++◌, length, take, nat_le, if◌then◌else◌}
use Rattle.std.specs.Option.{option_map}
use Rattle.sc_channel.specs.Channel.{ChannelNumbers}
use Rattle.sc_channel.specs.Flags.{set_count, span, window}

-- flags are fine where at most n are set, or where all set flags lie within a span of at most b
pub data IsFine (b n : ℕ) (flags : List Bool) : Type 0 where
  few : set_count flags ≤ n → IsFine b n flags
  close : span flags ≤ b → IsFine b n flags

-- a loss is admissible where every contiguous part of at most w flags is fine
pub record IsAdmissible (channel : ChannelNumbers) (loss : List Bool) : Type 0 where
  pub part_is_fine : (before part after : List Bool) → before ++ (part ++ after) ≡ loss → length part ≤ channel.w → IsFine channel.b channel.n part

-- all windows of a loss are fine, the shorter ones at its end too
abbrev pub AllWindowsFine : ChannelNumbers → List Bool → Type 0
AllWindowsFine channel loss =
    (i : ℕ) → i < length loss → IsFine channel.b channel.n (window channel.w i loss)

-- window i is the first that isn't fine
pub record IsFirstBadWindow (channel : ChannelNumbers) (loss : List Bool) (i : ℕ) : Type 0 where
  pub in_range : i < length loss
  pub bad : ¬ IsFine channel.b channel.n (window channel.w i loss)
  pub earlier_fine : (k : ℕ) → k < i → IsFine channel.b channel.n (window channel.w k loss)

-- a test of fine flags
abbrev pub is_fine : ℕ → ℕ → List Bool → Bool
is_fine b n flags = nat_le (set_count flags) n || nat_le (span flags) b

-- the place of the first window that isn't fine: each flag begins one, which goes w flags on or to the end
abbrev pub bad_window : ChannelNumbers → List Bool → Option ℕ
bad_window c [] = None
bad_window c (flag ∷ flags) = if is_fine c.b c.n (take c.w (flag ∷ flags)) then option_map suc (bad_window c flags) else Some 0
