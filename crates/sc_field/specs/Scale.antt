-- Bytes to which products with an element are added.
use Rattle.std.specs.Prelude.{◌≡◌, ℕ, ◌*◌, ◌/◌, ◌%◌, ◌<◌, List, [], ◌∷◌, bit_xor, slice_index, length}

-- dst, with f of the byte of src at the same place added by xor to each byte
abbrev pub scaled_sum : (ℕ → ℕ) → List ℕ → List ℕ → List ℕ
scaled_sum f [] src = []
scaled_sum f (d ∷ dst) [] = d ∷ dst
scaled_sum f (d ∷ dst) (s ∷ src) = bit_xor d (f s) ∷ scaled_sum f dst src

-- the table has 16 entries, f of 0, step, 2 * step and so on
abbrev pub IsTableOf : (ℕ → ℕ) → ℕ → List ℕ → Type 0
IsTableOf f step table = (k : ℕ) → k < 16 → slice_index table k ≡ f (step * k)

-- f of a byte is the xor of the entries of two tables at the byte's low half and at its high half
abbrev pub IsByHalves : (ℕ → ℕ) → List ℕ → List ℕ → Type 0
IsByHalves f low high = (b : ℕ) → b < 256 → f b ≡ bit_xor (slice_index low (b % 16)) (slice_index high (b / 16))

-- the table of 16 entries, over and over up to so many entries
pub record IsRepeated (lanes : ℕ) (table wide : List ℕ) : Type 0 where
  pub long : length wide ≡ lanes
  pub each : (k : ℕ) → k < lanes → slice_index wide k ≡ slice_index table (k % 16)
