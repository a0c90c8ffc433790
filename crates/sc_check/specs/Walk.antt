-- The classes behind the first, by the flags that they begin with.
use Rattle.std.specs.Prelude.{◌≡◌, ℕ, ◌+◌, ◌-◌, ◌<◌, ◌≤◌, List, [], ◌++◌, Bool, All, length, take, slice_index_or}
use Rattle.sc_matrix.specs.Matrix.{Matrix}
use Rattle.sc_channel.specs.Channel.{ChannelNumbers}
use Rattle.sc_channel.specs.Classes.{choose, flags_with, class_count}
use Rattle.sc_channel.specs.Flags.{IsSet}
use Rattle.sc_check.specs.Failing.{class_at}

-- The classes that begin with the first `done` of these flags are those from index `first` on, `ways` of them. Behind those
-- flags they have every list of flags of which `left` are set, in order.
pub record IsFrontOf (channel : ChannelNumbers) (flags : List Bool) (done left first ways : ℕ) : Type 0 where
  pub first_lost : IsSet (take done flags) 0
  pub within : done ≤ channel.t + 1
  pub count : ways ≡ choose (channel.t + 1 - done) left
  pub in_range : first + ways ≤ class_count channel
  pub classes : (i : ℕ) → i < ways → class_at channel (first + i) ≡ take done flags ++ slice_index_or (flags_with (channel.t + 1 - done) left) i []

-- Spare matrices for what more losses leave open: at least so many, each of the width of an image.
pub record IsRoom (width left : ℕ) (spare : List (Matrix ℕ)) : Type 0 where
  pub enough : left ≤ length spare
  pub widths : All (λ m. m.cols ≡ width) spare
