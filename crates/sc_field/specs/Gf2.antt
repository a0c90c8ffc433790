-- The field of two elements, whose numbers are 0 and 1. The sum is xor, and the product is and.
use Rattle.std.specs.Prelude.{ℕ, ◌==◌, if◌then◌else◌}

-- the product of an element and a byte: one keeps the byte, and zero gives 0
abbrev pub gf2_act : ℕ → ℕ → ℕ
gf2_act x b = if x == 0 then 0 else b
