-- The field of 256 elements (the field of Reed-Solomon codes over bytes). An element is a byte, a polynomial over
-- GF(2) whose coefficient of x^i is bit i. The sum is xor, and the product is taken modulo x^8 + x^4 + x^3 + x^2 + 1.
use Rattle.std.specs.Prelude.{ℕ, ◌+◌, ◌*◌, ◌^◌, ◌==◌, List, [], ◌∷◌, map, filter, fold, bit_xor, if◌then◌else◌}
use Rattle.std.specs.Int.{bit_at}
use Rattle.std.specs.List.{range_with_len, position_or_len}

-- the xor of all the numbers
abbrev pub xor_all : List ℕ → ℕ
xor_all [] = 0
xor_all (x ∷ xs) = bit_xor x (xor_all xs)

-- the carry-less product of two bytes: the xor of x shifted left by i, over all set bits i of y
unfoldable pub carryless_product : ℕ → ℕ → ℕ
carryless_product x y = xor_all (map (λ i. x * 2 ^ i) (filter (λ i. bit_at y i == 1) (range_with_len 0 8)))

-- one step of a reduction: 0x11D is taken, shifted left by i, where its highest bit meets a set bit of n
abbrev pub less_modulus : ℕ → ℕ → ℕ
less_modulus n i = if bit_at n (i + 8) == 1 then bit_xor n (0x11D * 2 ^ i) else n

-- a carry-less product of two bytes, reduced from its highest bit down until 8 bits are left
unfoldable pub reduced : ℕ → ℕ
reduced n = fold less_modulus n (6 ∷ 5 ∷ 4 ∷ 3 ∷ 2 ∷ 1 ∷ 0 ∷ [])

-- the product of two bytes
unfoldable pub gf256_product : ℕ → ℕ → ℕ
gf256_product x y = reduced (carryless_product x y)

-- the byte whose product with x is 1, for x from 1 to 255
unfoldable pub gf256_inverse : ℕ → ℕ
gf256_inverse x = position_or_len (λ y. gf256_product x y == 1) (range_with_len 0 256)
