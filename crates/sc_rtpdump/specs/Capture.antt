-- Captures: a preamble and any number of records, with nothing after them.
use Rattle.std.specs.Prelude.{◌≡◌, ℕ, zero, suc, ◌<◌, Option, Some, None, List, [], ◌∷◌, ◌++◌, length, take, drop, slice_index}
use Rattle.std.specs.List.{AllByRecursion, flat_map}
use Rattle.sc_rtpdump.specs.Record.{Record, IsRecord, record_bytes, ends, breaks, starts, front_of}
use Rattle.sc_rtpdump.specs.Preamble.{IsPreamble, preamble_len}

-- how records are spelled, one after the other
abbrev pub records_bytes : List Record → List ℕ
records_bytes records = flat_map record_bytes records

-- bytes are a capture: this preamble and these records
pub record IsCapture (bytes preamble : List ℕ) (records : List Record) : Type 0 where
  pub preamble_is : IsPreamble preamble
  pub records_are : AllByRecursion IsRecord records
  pub parts : bytes ≡ preamble ++ records_bytes records

-- the whole records at the front of bytes, and what stands behind them: nothing, or what begins with no record
pub record Parts : Type 0 where
  pub records : List Record
  pub tail : List ℕ

abbrev pub with_first : Record → Parts → Parts
with_first rec parts = record { records = rec ∷ parts.records; tail = parts.tail }

-- the first so many of the records
abbrev pub parts_within : ℕ → List ℕ → Parts
parts_within zero bytes = record { records = []; tail = bytes }
parts_within (suc n) bytes = elim (front_of bytes) as (λ _. Parts) [
  | ends ↦ record { records = []; tail = bytes }
  | breaks break ↦ record { records = []; tail = bytes }
  | starts rec rest ↦ with_first rec (parts_within n rest)
]

-- all of them: there are fewer records than bytes
unfoldable pub parts_of : List ℕ → Parts
parts_of bytes = parts_within (length bytes) bytes

-- the one reading of bytes: they begin with no preamble, or with one, and then come records and the rest
pub data Reading : Type 0 where
  no_preamble : Reading
  reads : (preamble : List ℕ) → Parts → Reading

abbrev pub reading_with : Option ℕ → List ℕ → Reading
reading_with None bytes = no_preamble
reading_with (Some n) bytes = reads (take n bytes) (parts_of (drop n bytes))

unfoldable pub reading_of : List ℕ → Reading
reading_of bytes = reading_with (preamble_len bytes) bytes

-- numbers that are bytes
abbrev pub AreBytes : List ℕ → Type 0
AreBytes bytes = (i : ℕ) → slice_index bytes i < 256

-- bytes are a preamble, whole records, and what begins with no record
pub record IsReading (bytes preamble : List ℕ) (parts : Parts) : Type 0 where
  pub preamble_is : IsPreamble preamble
  pub records_are : AllByRecursion IsRecord parts.records
  pub spelled : bytes ≡ preamble ++ (records_bytes parts.records ++ parts.tail)
  pub ended : (e : Record) (rest : List ℕ) → front_of parts.tail ≡ starts e rest → ⊥

-- no preamble is at the front of bytes
abbrev pub BeginsOtherwise : List ℕ → Type 0
BeginsOtherwise bytes = (preamble rest : List ℕ) → IsPreamble preamble → bytes ≡ preamble ++ rest → ⊥
