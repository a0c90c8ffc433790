-- Places of things that stand row by row.
use Rattle.std.proofs.Common.{ℕ, ◌+◌, ◌*◌, ◌<◌, ◌≤◌, arith}
use Rattle.std.proofs.Math.Nat.{mul-le-mul_right}

-- column y of row x stands before the end of n rows
pub place_below : (x n y m : ℕ) → x < n → y < m → x * m + y < n * m
place_below x n y m hx hy =
    let h : x + 1 ≤ n = omega arith in
    omega (arith, hy, mul-le-mul_right m h)
