-- What a fetch from a cabinet in memory does is what the trait asks.
use Rattle.std.proofs.Common.{◌≡◌, ℕ, ◌+◌, ◌-◌, ◌^◌, ◌<◌, ◌≤◌, true, false, cond, List, map, drop, get_or, length, Some, Result, Ok, Err, Vec, String, string_bytes, bytes_eq, sym, ap, ◌∙◌, arith}
use Rattle.std.proofs.lemmas.List.{at_drop_more, length-take}
use Rattle.sc_outside.specs.declared.cabinet.FetchFault.{FetchFault}
use Rattle.sc_outside.specs.declared.cabinet.FetchFault.TheVariants.{Failed, Memory}
use Rattle.sc_outside.specs.Cabinet.{file_named, FetchGives, FetchFails}
use Rattle.sc_outside.specs.MemoryCabinet.{CabinetState, told_by_cabinet, file_entry, FetchesAs}
use Rattle.sc_outside.proofs.FaultsLaws.{Rose-counted}

module _ {A B : Type 0} where
  -- the files from place i on, where the one there has been looked at
  at_file : (name : List ℕ) (files : List (String A × Vec ℕ B)) (i : ℕ) (file : String A × Vec ℕ B) → i < length files
      → file ≡ get_or files i file
      → file_named name (map file_entry (drop i files))
      ≡ cond (bytes_eq name (string_bytes file.0)) (Some file.1.items) (file_named name (map file_entry (drop (i + 1) files)))
  at_file name files i file h e =
      at_drop_more (λ files. file_named name (map file_entry files)) files i file h
      ∙ ap (λ f. cond (bytes_eq name (string_bytes f.0)) (Some f.1.items) (file_named name (map file_entry (drop (i + 1) files)))) (sym e)

  pub file_here : (name : List ℕ) (files : List (String A × Vec ℕ B)) (i : ℕ) (file : String A × Vec ℕ B) → i < length files
      → file ≡ get_or files i file → bytes_eq name (string_bytes file.0) ≡ true
      → file_named name (map file_entry (drop i files)) ≡ Some file.1.items
  file_here name files i file h e same =
      at_file name files i file h e ∙ ap (λ b. cond b (Some file.1.items) (file_named name (map file_entry (drop (i + 1) files)))) same

  pub file_later : (name : List ℕ) (files : List (String A × Vec ℕ B)) (i : ℕ) (file : String A × Vec ℕ B) → i < length files
      → file ≡ get_or files i file → bytes_eq name (string_bytes file.0) ≡ false
      → file_named name (map file_entry (drop i files)) ≡ file_named name (map file_entry (drop (i + 1) files))
  file_later name files i file h e other =
      at_file name files i file h e ∙ ap (λ b. cond b (Some file.1.items) (file_named name (map file_entry (drop (i + 1) files)))) other

pub FetchGives-memory : {A : Type 0} (old new : CabinetState) (name : List ℕ) (limit : ℕ) (r : Result (Vec ℕ A) FetchFault)
    → old.faults ≤ 2 ^ 64 - 1 → FetchesAs old new name limit r → FetchGives (told_by_cabinet old) (told_by_cabinet new) name limit r
FetchGives-memory old new name limit r known (FetchesAs.refused _ e left) =
    rw e (record { cause = FetchFails.fault (Rose-counted _ _ known (ap (λ s. s.faults) left)); files = ap (λ s. Some s.files) left })
FetchGives-memory old new name limit (Ok bytes) known (FetchesAs.served _ found left) = record {
  bound = rw found.2 (omega (arith, length-take limit found.0));
  start = found;
  files = ap (λ s. Some s.files) left;
  faults = ap (λ s. s.faults) left;
}
FetchGives-memory old new name limit (Err Failed) known (FetchesAs.served _ lacks left) = record {
  cause = FetchFails.lacks lacks (ap (λ s. s.faults) left);
  files = ap (λ s. Some s.files) left;
}
FetchGives-memory old new name limit (Err Memory) known (FetchesAs.served _ found left) = record {
  files = ap (λ s. Some s.files) left;
  faults = ap (λ s. s.faults) left;
}

pub ruleset memory_cabinets = (FetchGives-memory)
