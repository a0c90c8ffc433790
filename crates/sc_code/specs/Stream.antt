-- Streams: lists of blocks, one a slot. A block is a list of symbols, and a symbol a list of bytes.
use Rattle.std.specs.Prelude.{ℕ, List, [], All, replicate, bit_xor, slice_index, slice_index_or}
use Rattle.sc_matrix.specs.Module.{IsByte}
use Rattle.sc_matrix.specs.Vector.{IsVector, add_vectors}

-- a block of k symbols of m bytes
abbrev pub IsBlock : ℕ → ℕ → List (List ℕ) → Type 0
IsBlock k m block = IsVector (IsVector IsByte m) k block

-- A stream of width m, for a code of k symbols: each block has k symbols of m bytes.
abbrev pub IsStream : ℕ → ℕ → List (List (List ℕ)) → Type 0
IsStream k m stream = All (IsBlock k m) stream

-- k symbols of m bytes that are 0
abbrev pub zero_block : ℕ → ℕ → List (List ℕ)
zero_block k m = replicate k (replicate m 0)

-- block t
abbrev pub block_at : List (List (List ℕ)) → ℕ → List (List ℕ)
block_at stream t = slice_index_or stream t []

-- Byte c of symbol i of a block, and 0 where there is none.
abbrev pub byte_at : List (List ℕ) → ℕ → ℕ → ℕ
byte_at block i c = slice_index (slice_index_or block i []) c

-- Column c of a stream: from a slot t and a symbol i to byte c of symbol i of block t. It is 0 where there is none.
abbrev pub column : List (List (List ℕ)) → ℕ → ℕ → ℕ → ℕ
column stream c t i = byte_at (block_at stream t) i c

-- the sum of two blocks, byte by byte
abbrev pub xor_blocks : List (List ℕ) → List (List ℕ) → List (List ℕ)
xor_blocks a b = add_vectors (add_vectors bit_xor) a b

-- the sum of two streams, block by block
abbrev pub xor_streams : List (List (List ℕ)) → List (List (List ℕ)) → List (List (List ℕ))
xor_streams xs ys = add_vectors xor_blocks xs ys
