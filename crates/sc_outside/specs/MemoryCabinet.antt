-- A cabinet in memory: all that its fetches depend on and change.
use Rattle.std.specs.Prelude.{◌≡◌, ℕ, ◌==◌, Bool, true, false, List, take, None, Some, Result, Ok, Err, Vec, String, string_bytes}
use Rattle.std.specs.List.{list_any}
use Rattle.sc_outside.specs.declared.cabinet.FetchFault.{FetchFault}
use Rattle.sc_outside.specs.declared.cabinet.FetchFault.TheVariants.{Failed, Memory}
use Rattle.sc_outside.specs.Faults.{counted}
use Rattle.sc_outside.specs.Cabinet.{CabinetTold, file_named}

-- What a cabinet in memory has: its files, the fetches that fail, the number of fetches so far, and the faults.
pub record CabinetState : Type 0 where
  pub files : List (List ℕ × List ℕ)
  pub fails : List ℕ
  pub calls : ℕ
  pub faults : ℕ

-- a file that is kept as its name and its bytes
abbrev pub file_entry : {A B : Type 0} → String A × Vec ℕ B → List ℕ × List ℕ
file_entry file = (string_bytes file.0, file.1.items)

abbrev pub told_by_cabinet : CabinetState → CabinetTold
told_by_cabinet s = record { files = Some s.files; faults = s.faults }

-- the fetch at hand is one that fails
abbrev pub is_refused_by_cabinet : CabinetState → Bool
is_refused_by_cabinet s = list_any (λ call. call == s.calls) s.fails

-- what a fetch that isn't refused answers: the file's first bytes, or want of memory, or the name isn't there
abbrev pub FindsAs : {A : Type 0} → CabinetState → List ℕ → ℕ → Result (Vec ℕ A) FetchFault → Type 0
FindsAs old name limit (Ok bytes) = (file : List ℕ) × (file_named name old.files ≡ Some file) × (bytes.items ≡ take limit file)
FindsAs old name limit (Err Failed) = file_named name old.files ≡ None
FindsAs old name limit (Err Memory) = (file : List ℕ) × (file_named name old.files ≡ Some file)

-- what a fetch answers, and what it leaves
pub data FetchesAs {A : Type 0} (old new : CabinetState) (name : List ℕ) (limit : ℕ) (answer : Result (Vec ℕ A) FetchFault) : Type 0 where
  refused : is_refused_by_cabinet old ≡ true → answer ≡ Err Failed
      → new ≡ record old { calls = counted old.calls; faults = counted old.faults } → FetchesAs old new name limit answer
  served : is_refused_by_cabinet old ≡ false → FindsAs old name limit answer
      → new ≡ record old { calls = counted old.calls } → FetchesAs old new name limit answer
