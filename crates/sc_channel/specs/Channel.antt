-- The numbers of a channel, after the sliding-window erasure channel of Badr and others.
use Rattle.std.specs.Prelude.{ℕ, ◌<◌, ◌≤◌, ◌&&◌, Bool, nat_lt, nat_le}

-- the numbers of a channel, in slots: the length of a window, the greatest span, the number of losses that a
-- window may have anywhere, and the deadline
pub record ChannelNumbers : Type 0 where
  pub w : ℕ
  pub b : ℕ
  pub n : ℕ
  pub t : ℕ

-- 1 ≤ n ≤ b ≤ t < w
pub record IsOrdered (w b n t : ℕ) : Type 0 where
  pub some_loss : 1 ≤ n
  pub count_in_span : n ≤ b
  pub span_in_deadline : b ≤ t
  pub deadline_in_window : t < w

-- the numbers are in order and within this project's limits
pub record IsChannel (channel : ChannelNumbers) : Type 0 where
  pub ordered : IsOrdered channel.w channel.b channel.n channel.t
  pub window_limit : channel.w ≤ 255
  pub deadline_limit : channel.t ≤ 40

-- a test of the same
unfoldable pub is_channel : ChannelNumbers → Bool
is_channel c =
    nat_le 1 c.n && nat_le c.n c.b && nat_le c.b c.t && nat_lt c.t c.w && nat_le c.w 255 && nat_le c.t 40
