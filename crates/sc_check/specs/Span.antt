-- What the streams that the losses so far leave open can still give: vectors that span it.
use Rattle.std.specs.Prelude.{◌≡◌, ℕ, ◌<◌, ◌≤◌, ◌+◌, ◌*◌, ◌-◌, ◌/◌, ◌%◌, ◌==◌, Bool, List, length, map, All, bit_xor, nat_lt, slice_index_or, if◌then◌else◌}
use Rattle.std.specs.List.{range_with_len}
use Rattle.sc_field.specs.Gf256.{gf256_product}
use Rattle.sc_matrix.specs.Module.{IsByte}
use Rattle.sc_matrix.specs.Matrix.{Matrix}
use Rattle.sc_matrix.specs.RowSpace.{IsInRowSpace}
use Rattle.sc_code.specs.Code.{Code}
use Rattle.sc_code.specs.Parity.{parity_symbol}
use Rattle.sc_code.specs.Determined.{IsKept}

-- parity symbol j of slot t of a stream of elements of GF(256)
abbrev pub parity_at : Code ℕ → (ℕ → ℕ → ℕ) → ℕ → ℕ → ℕ
parity_at code f t j = parity_symbol 0 0 bit_xor gf256_product code f t j

-- the image of a stream: its parities in so many slots, one behind the other, and its block 0 last
abbrev pub image_width : Code ℕ → ℕ → ℕ
image_width code slots = slots * code.r + code.k

abbrev pub image_entry : Code ℕ → ℕ → (ℕ → ℕ → ℕ) → ℕ → ℕ
image_entry code slots f c =
    if nat_lt c (slots * code.r) then parity_at code f (c / code.r) (c % code.r) else f 0 (c - slots * code.r)

abbrev pub image : Code ℕ → ℕ → (ℕ → ℕ → ℕ) → List ℕ
image code slots f = map (λ c. image_entry code slots f c) (range_with_len 0 (image_width code slots))

-- A stream of elements is open after slots of which these flags tell the lost ones: it is zero in each kept one, in block and
-- parity, and each later block is zero.
pub record IsOpen (code : Code ℕ) (flags : List Bool) (f : ℕ → ℕ → ℕ) : Type 0 where
  pub elements : (t i : ℕ) → IsByte (f t i)
  pub later_blocks : (t i : ℕ) → length flags ≤ t → i < code.k → f t i ≡ 0
  pub kept_blocks : (t i : ℕ) → IsKept flags t → i < code.k → f t i ≡ 0
  pub kept_parities : (t j : ℕ) → IsKept flags t → j < code.r → parity_at code f t j ≡ 0

-- v is the image of an open stream
pub record IsOpenImage (code : Code ℕ) (slots : ℕ) (flags : List Bool) (v : List ℕ) : Type 0 where
  pub stream : ℕ → ℕ → ℕ
  pub is_open : IsOpen code flags stream
  pub is_image : v ≡ image code slots stream

-- The rows of a matrix span the images of the open streams.
pub record IsSpan (code : Code ℕ) (slots : ℕ) (flags : List Bool) (m : Matrix ℕ) : Type 0 where
  pub cols : m.cols ≡ image_width code slots
  pub images : All (IsOpenImage code slots flags) m.rows
  pub spans : (f : ℕ → ℕ → ℕ) → IsOpen code flags f → IsInRowSpace IsByte 0 bit_xor gf256_product m (image code slots f)

-- the stream that has a one as symbol i of slot s, and nothing else
abbrev pub unit_stream : ℕ → ℕ → ℕ → ℕ → ℕ
unit_stream s i t u = if t == s then (if u == i then 1 else 0) else 0

-- In the columns from `from` to `to` - 1, the vectors of the row space of a matrix that are zero there are the row space of
-- another.
pub record IsCleared (old new : Matrix ℕ) (from to : ℕ) : Type 0 where
  pub cols : new.cols ≡ old.cols
  pub within : (v : List ℕ) → IsInRowSpace IsByte 0 bit_xor gf256_product new v → IsInRowSpace IsByte 0 bit_xor gf256_product old v
  pub zero_there : (v : List ℕ) → IsInRowSpace IsByte 0 bit_xor gf256_product new v → (c : ℕ) → from ≤ c → c < to → slice_index_or v c 0 ≡ 0
  pub all_of_them : (v : List ℕ) → IsInRowSpace IsByte 0 bit_xor gf256_product old v → ((c : ℕ) → from ≤ c → c < to → slice_index_or v c 0 ≡ 0)
      → IsInRowSpace IsByte 0 bit_xor gf256_product new v

-- image n of so many slots: that of symbol n mod k of slot n div k
abbrev pub unit_image : Code ℕ → ℕ → ℕ → List ℕ
unit_image code slots n = image code slots (unit_stream (n / code.k) (n % code.k))

-- the rows of a matrix are the images of the unit streams of so many slots
pub record AreUnitImages (code : Code ℕ) (slots : ℕ) (m : Matrix ℕ) : Type 0 where
  pub cols : m.cols ≡ image_width code slots
  pub rows : m.rows ≡ map (unit_image code slots) (range_with_len 0 (slots * code.k))
