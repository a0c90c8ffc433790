-- The preamble of a capture: the line `#!rtpplay1.0 `, any bytes, and a newline, of at most 4,096 bytes in all; and
-- then 16 bytes (start seconds and microseconds, source address, port, padding).
use Rattle.std.specs.Prelude.{◌≡◌, ◌≢◌, ℕ, suc, ◌+◌, ◌<◌, ◌≤◌, ◌==◌, ◌&&◌, ◌⊎◌, Bool, true, false, Option, Some, None, List, [], ◌∷◌, ◌++◌, length, take, drop, nat_le, codes, bytes_eq, Result, Ok, Err, if◌then◌else◌}
use Rattle.std.specs.Io.KnownBytes.{IsAtEnd}
use Rattle.std.specs.Option.{option_map}
use Rattle.std.specs.List.{AllByRecursion}
use Rattle.sc_outside.specs.declared.error.Failed.{Failed}
use Rattle.sc_outside.specs.Faults.{Rose}
use Rattle.sc_outside.specs.Port.{Told, Takes}
use Rattle.sc_rtpdump.specs.declared.fault.DumpFault.{DumpFault}
use Rattle.sc_rtpdump.specs.declared.fault.DumpFault.TheVariants.{Preamble, RecordHead, RecordLength, Truncated, Read, Memory}

-- the 13 bytes with which the line begins
abbrev pub magic : List ℕ
magic = codes "#!rtpplay1.0 "

-- bytes that are a preamble
pub record IsPreamble (bytes : List ℕ) : Type 0 where
  pub line : List ℕ
  pub fields : List ℕ
  pub parts : bytes ≡ magic ++ (line ++ 10 ∷ fields)
  pub one_line : AllByRecursion (λ b. b ≢ 10) line
  pub short_line : 14 + length line ≤ 4096
  pub all_fields : length fields ≡ 16

-- the place of the first newline
abbrev pub newline_at : List ℕ → Option ℕ
newline_at [] = None
newline_at (b ∷ bytes) = if b == 10 then Some 0 else option_map suc (newline_at bytes)

-- the length of a preamble whose line has its newline at this place after the magic, in so many bytes
abbrev pub len_with : Option ℕ → ℕ → Option ℕ
len_with None n = None
len_with (Some place) n = if nat_le (14 + place) 4096 && nat_le (30 + place) n then Some (30 + place) else None

-- the length of the preamble with which bytes begin, if they begin with one
unfoldable pub preamble_len : List ℕ → Option ℕ
preamble_len bytes = if bytes_eq (take 13 bytes) magic then len_with (newline_at (drop 13 bytes)) (length bytes) else None

-- ---- what the calls answer that read a preamble

-- some bytes were taken, of which P holds
pub record TakesSome (old new : Told) (P : List ℕ → Type 0) : Type 0 where
  pub taken : List ℕ
  pub takes : Takes old new taken
  pub holds : P taken

-- bytes begin with no preamble
abbrev pub HasNoPreamble : List ℕ → Type 0
HasNoPreamble bytes = preamble_len bytes ≡ None

-- no newline is among the bytes
abbrev pub IsOneLine : List ℕ → Type 0
IsOneLine bytes = AllByRecursion (λ b. b ≢ 10) bytes

-- bytes that begin otherwise than a preamble
abbrev pub IsOther : List ℕ → Type 0
IsOther bytes = (length bytes ≡ 13) × (bytes ≢ magic)

-- What reading the first 13 bytes answers: true where they are those of a preamble; false where they are others, or where
-- the input ends before.
abbrev pub MagicGives : Told → Told → Result Bool Failed → Type 0
MagicGives old new (Ok true) = Takes old new magic
MagicGives old new (Ok false) = TakesSome old new IsOther ⊎ (TakesSome old new (λ bytes. length bytes < 13) × IsAtEnd new.left)
MagicGives old new (Err e) = TakesSome old new (λ bytes. length bytes < 13) × Rose old.read_faults new.read_faults

-- What reading a byte answers: that byte, or `None` at the end of the input.
abbrev pub ByteGives : Told → Told → Result (Option ℕ) Failed → Type 0
ByteGives old new (Ok (Some b)) = Takes old new (b ∷ [])
ByteGives old new (Ok None) = Takes old new [] × IsAtEnd new.left
ByteGives old new (Err e) = Takes old new [] × Rose old.read_faults new.read_faults

-- What reading a line into a buffer answers: the place of the newline, which is the last byte that was taken; `None` where
-- the buffer is full of others, or where the input ends before.
abbrev pub LineGives : Told → Told → List ℕ → Result (Option ℕ) Failed → Type 0
LineGives old new buf (Ok (Some i)) =
    (i < length buf) × IsOneLine (take i buf) × (take (i + 1) buf ≡ take i buf ++ 10 ∷ []) × Takes old new (take (i + 1) buf)
LineGives old new buf (Ok None) = TakesSome old new (λ line. IsOneLine line × (length line < length buf → IsAtEnd new.left))
LineGives old new buf (Err e) = TakesSome old new IsOneLine × Rose old.read_faults new.read_faults

-- What reading a preamble answers. At `Ok` exactly its bytes were taken. `Preamble` comes where the input begins with
-- none: whatever followed the bytes that were taken, or at the input's end. `Read` comes where a read failed before a whole
-- one was taken, and `Memory` before anything was taken.
abbrev pub PreambleGives : Told → Told → Result (List ℕ) DumpFault → Type 0
PreambleGives old new (Ok preamble) = IsPreamble preamble × Takes old new preamble
PreambleGives old new (Err Preamble) =
    TakesSome old new (λ taken. ((rest : List ℕ) → HasNoPreamble (taken ++ rest)) ⊎ (HasNoPreamble taken × IsAtEnd new.left))
PreambleGives old new (Err Read) = TakesSome old new HasNoPreamble × Rose old.read_faults new.read_faults
PreambleGives old new (Err Memory) = Takes old new []
PreambleGives old new (Err (RecordHead i)) = ⊥
PreambleGives old new (Err (RecordLength i)) = ⊥
PreambleGives old new (Err (Truncated i)) = ⊥

-- the same of reading into a buffer, where this is what stands there then
abbrev pub PartsGive : Told → Told → List ℕ → Result Unit DumpFault → Type 0
PartsGive old new bytes (Ok done) = PreambleGives old new (Ok bytes)
PartsGive old new bytes (Err fault) = PreambleGives old new (Err fault) × (fault ≡ Memory → ⊥)
