-- What a cabinet over a file system tells, and what reading the start of a file gives.
use Rattle.std.specs.Prelude.{◌≡◌, ℕ, ◌<◌, ◌≤◌, List, ◌++◌, length, take, ⊤, Option, None, Result, Ok, Err, Vec}
use Rattle.std.specs.Io.KnownBytes.{Consumes, IsAtEnd}
use Rattle.sc_outside.specs.declared.cabinet.FetchFault.{FetchFault}
use Rattle.sc_outside.specs.declared.dir_cabinet.DirCabinet.{DirCabinet}
use Rattle.sc_outside.specs.Cabinet.{CabinetTold}

-- a file system tells no file
abbrev pub dir_told : {R : Type 0} → DirCabinet R → CabinetTold
dir_told cabinet = record { files = None; faults = cabinet.faults }

-- A reader's next bytes were taken: `limit` of them, or all that it had left.
pub record StartTaken (left after : Option (List ℕ)) (limit : ℕ) (bytes : List ℕ) : Type 0 where
  pub bound : length bytes ≤ limit
  pub taken : Consumes left after bytes
  pub end : length bytes < limit → IsAtEnd after

-- The first n bytes of a piece were taken, and stand behind those that were there. None were only at the end.
pub record ReadsOnto (left after : Option (List ℕ)) (piece before now : List ℕ) (n : ℕ) : Type 0 where
  pub onto : now ≡ before ++ take n piece
  pub taken : Consumes left after (take n piece)
  pub end : n ≡ 0 → 0 < length piece → IsAtEnd after

-- what reading the start of a file gives
abbrev pub StartGives : {A : Type 0} → Option (List ℕ) → Option (List ℕ) → ℕ → Result (Vec ℕ A) FetchFault → Type 0
StartGives left after limit (Ok bytes) = StartTaken left after limit bytes.items
StartGives left after limit (Err e) = ⊤
