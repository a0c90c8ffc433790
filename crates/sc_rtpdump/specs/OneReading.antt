-- What is said of the one reading of bytes: it is the one that the grammar gives.
use Rattle.std.specs.Prelude.{◌≡◌, ◌↔◌, List, ℕ, [], ◌++◌}
use Rattle.sc_rtpdump.specs.Record.{Record, IsRecord, record_bytes, starts, front_of}
use Rattle.sc_rtpdump.specs.Capture.{IsCapture, Parts, reads, no_preamble, reading_of, AreBytes, IsReading, BeginsOtherwise}

-- a capture is read as its preamble and its records, with nothing behind them
abbrev pub CapturesAreRead : Type 0
CapturesAreRead = (bytes preamble : List ℕ) (records : List Record) → IsCapture bytes preamble records
    → reading_of bytes ≡ reads preamble (record { records = records; tail = [] })

-- what is read of bytes is there
abbrev pub ReadingsAreThere : Type 0
ReadingsAreThere = (bytes preamble : List ℕ) (parts : Parts) → AreBytes bytes → reading_of bytes ≡ reads preamble parts → IsReading bytes preamble parts

-- what is there is read: bytes have one reading
abbrev pub ReadingsAreAlone : Type 0
ReadingsAreAlone = (bytes preamble : List ℕ) (parts : Parts) → IsReading bytes preamble parts → reading_of bytes ≡ reads preamble parts

-- no preamble is read exactly where none is at the front
abbrev pub NoneIsExact : Type 0
NoneIsExact = (bytes : List ℕ) → (reading_of bytes ≡ no_preamble) ↔ BeginsOtherwise bytes

-- a record is found exactly where bytes begin with its spelling
abbrev pub FrontIsExact : Type 0
FrontIsExact = (bytes : List ℕ) (e : Record) (rest : List ℕ) → AreBytes bytes → (front_of bytes ≡ starts e rest) ↔ (IsRecord e × (bytes ≡ record_bytes e ++ rest))
