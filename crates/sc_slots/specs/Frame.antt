-- Frames: how a packet and the offset of its record stand in a block. Two bytes of the packet's length, four of the offset
-- in milliseconds, the packet, and zeros up to the block's end. All numbers are big-endian. Of this project.
use Rattle.std.specs.Prelude.{◌≡◌, ℕ, ◌+◌, ◌-◌, ◌*◌, ◌^◌, ◌<◌, ◌≤◌, List, ◌++◌, length, replicate}
use Rattle.std.specs.Int.{w16, w32, to_be_bytes, div_ceil}

-- the width m of a code of k symbols: so many bytes a symbol that a block holds the frame of a packet of `size` bytes
abbrev pub width_of : ℕ → ℕ → ℕ
width_of size k = div_ceil (size + 6) k

-- it is the least number for which such a frame fits
pub record IsWidth (size k m : ℕ) : Type 0 where
  pub fits : size + 6 ≤ k * m
  pub least : (w : ℕ) → size + 6 ≤ k * w → m ≤ w

-- the frame of a packet in a block of `len` bytes
unfoldable pub frame_bytes : ℕ → List ℕ → ℕ → List ℕ
frame_bytes offset packet len =
    to_be_bytes w16 (length packet) ++ (to_be_bytes w32 offset ++ (packet ++ replicate (len - (6 + length packet)) 0))

-- all bytes are zero
abbrev pub IsBlank : List ℕ → Type 0
IsBlank block = block ≡ replicate (length block) 0

-- a block is the frame of this packet of at least one byte, with this offset
pub record IsFrame (block : List ℕ) (offset : ℕ) (packet : List ℕ) : Type 0 where
  pub some : 1 ≤ length packet
  pub length_fits : length packet < 2 ^ 16
  pub offset_fits : offset < 2 ^ 32
  pub room : 6 + length packet ≤ length block
  pub spelled : block ≡ frame_bytes offset packet (length block)

-- what a block is read as: zeros alone, an offset and a packet, or neither
pub data Unframed : Type 0 where
  blank : Unframed
  framed : ℕ → List ℕ → Unframed
  bad : Unframed

-- what each reading says of the block
abbrev pub Unframes : List ℕ → Unframed → Type 0
Unframes block blank = IsBlank block
Unframes block (framed offset packet) = IsFrame block offset packet
Unframes block bad = (IsBlank block → ⊥) × ((offset : ℕ) (packet : List ℕ) → IsFrame block offset packet → ⊥)
