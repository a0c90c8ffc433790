-- Bytes that stand in the midst of others.
use Rattle.std.specs.Prelude.{◌≡◌, ℕ, ◌+◌, ◌-◌, ◌≤◌, List, length, drop, replicate}

-- so many bytes from a place on stand among others, and behind them are zeros
pub record IsWindow (count from : ℕ) (bytes : List ℕ) : Type 0 where
  pub within : from + count ≤ length bytes
  pub zeros : drop (from + count) bytes ≡ replicate (length bytes - (from + count)) 0
