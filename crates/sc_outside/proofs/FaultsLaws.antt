-- A count that rose in one part of a run rose in the whole of it.
use Rattle.std.proofs.Common.{◌≡◌, ℕ, ◌-◌, ◌^◌, ◌≤◌, arith}
use Rattle.sc_outside.specs.Faults.{Rose, counted}

pub Rose-earlier : (a b c : ℕ) → a ≤ b → Rose b c → Rose a c
Rose-earlier a b c h r = record { later = omega arith; more = omega arith }

pub Rose-later : (a b c : ℕ) → Rose a b → b ≤ c → Rose a c
Rose-later a b c r h = record { later = omega arith; more = omega arith }

-- a count after one more rose, within 64 bits
pub Rose-counted : (n m : ℕ) → n ≤ 2 ^ 64 - 1 → m ≡ counted n → Rose n m
Rose-counted n m h e = record { later = omega (arith, e); more = omega (arith, e) }
