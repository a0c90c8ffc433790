-- What a cabinet of files tells of itself, and what a fetch answers.
use Rattle.std.specs.Prelude.{◌≡◌, ℕ, ◌≤◌, List, length, take, bytes_eq, ⊤, Option, None, Some, Result, Ok, Err, Vec}
use Rattle.std.specs.Map.{lookup}
use Rattle.sc_outside.specs.declared.cabinet.FetchFault.{FetchFault}
use Rattle.sc_outside.specs.declared.cabinet.FetchFault.TheVariants.{Failed, Memory}
use Rattle.sc_outside.specs.Faults.{Rose}

-- What a cabinet tells: its files, each a name and its bytes (`None` where it doesn't tell), and how often a fetch
-- failed at an outside fault.
pub record CabinetTold : Type 0 where
  pub files : Option (List (List ℕ × List ℕ))
  pub faults : ℕ

-- the bytes of the file of this name
abbrev pub file_named : List ℕ → List (List ℕ × List ℕ) → Option (List ℕ)
file_named name files = lookup (bytes_eq name) files

-- the files are told, and none has this name
abbrev pub Lacks : Option (List (List ℕ × List ℕ)) → List ℕ → Type 0
Lacks None name = ⊥
Lacks (Some files) name = file_named name files ≡ None

-- where the files are told, the file of this name begins with these bytes, which are its first `limit` or all of it
abbrev pub IsStartOfFile : Option (List (List ℕ × List ℕ)) → List ℕ → ℕ → List ℕ → Type 0
IsStartOfFile None name limit bytes = ⊤
IsStartOfFile (Some files) name limit bytes = (file : List ℕ) × (file_named name files ≡ Some file) × (bytes ≡ take limit file)

-- A fetch gave the first bytes of a file, `limit` at most. Nothing was changed.
pub record Fetched (old new : CabinetTold) (name : List ℕ) (limit : ℕ) (bytes : List ℕ) : Type 0 where
  pub bound : length bytes ≤ limit
  pub start : IsStartOfFile old.files name limit bytes
  pub files : new.files ≡ old.files
  pub faults : new.faults ≡ old.faults

-- why a fetch failed: the count of faults rose, or the files are told and lack the name
pub data FetchFails (old new : CabinetTold) (name : List ℕ) : Type 0 where
  fault : Rose old.faults new.faults → FetchFails old new name
  lacks : Lacks old.files name → new.faults ≡ old.faults → FetchFails old new name

-- A fetch failed. No file was changed.
pub record FetchFailed (old new : CabinetTold) (name : List ℕ) : Type 0 where
  pub cause : FetchFails old new name
  pub files : new.files ≡ old.files

-- Memory ran out within a fetch. Nothing was changed.
pub record FetchHadNoMemory (old new : CabinetTold) : Type 0 where
  pub files : new.files ≡ old.files
  pub faults : new.faults ≡ old.faults

-- what a fetch answers
abbrev pub FetchGives : {A : Type 0} → CabinetTold → CabinetTold → List ℕ → ℕ → Result (Vec ℕ A) FetchFault → Type 0
FetchGives old new name limit (Ok bytes) = Fetched old new name limit bytes.items
FetchGives old new name limit (Err Failed) = FetchFailed old new name
FetchGives old new name limit (Err Memory) = FetchHadNoMemory old new
