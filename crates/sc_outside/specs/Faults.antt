-- Counts of faults. A count never falls. It is kept in 64 bits, and stands still at its last value.
use Rattle.std.specs.Prelude.{ℕ, ◌+◌, ◌-◌, ◌^◌, ◌≤◌, min}

-- a count rose, or stands at its last value
pub record Rose (before now : ℕ) : Type 0 where
  pub later : before ≤ now
  pub more : min (before + 1) (2 ^ 64 - 1) ≤ now

-- a count after one more; it stands still at its last value
abbrev pub counted : ℕ → ℕ
counted n = min (n + 1) (2 ^ 64 - 1)
