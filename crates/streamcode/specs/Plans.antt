-- What a run of the program owes where its words name files: these are fetched, one after the other, and what they hold
-- says which job is left.
use Rattle.std.specs.Prelude.{◌≡◌, ◌⊎◌, ℕ, List, [], ◌∷◌, Option, Some, None, take}
use Rattle.sc_outside.specs.Cabinet.{CabinetTold, file_named, Lacks, Fetched, FetchFailed, FetchHadNoMemory}
use Rattle.sc_outside.specs.Ends.{Due, Job, Ends, only}
use Rattle.sc_outside.specs.Port.{Told}
use Rattle.streamcode.specs.declared.end.End.{End}
use Rattle.streamcode.specs.declared.end.End.TheVariants.{ReadFault, NoMemory}
use Rattle.streamcode.specs.Jobs.{IsSilent}

-- A job; or a file that is fetched first, by its name, and what is owed then by the bytes that came.
pub data Plan : Type 0 where
  owes : Job End → Plan
  fetches : List ℕ → (List ℕ → Plan) → Plan

-- Of a file at most so many bytes are fetched. One of which so many came is too long.
abbrev pub most_fetched : ℕ
most_fetched = 4194305

-- what is due by the bytes of a file. A file that isn't there ends the run
abbrev pub due_by : Option (List ℕ) → (List ℕ → Option (Due End)) → Option (Due End)
due_by None due = Some (only ReadFault)
due_by (Some file) due = due (take most_fetched file)

-- What is due by a plan where these are the files, and this is the whole input. Where the plan fetches a file and the files
-- aren't told, nothing is said.
abbrev pub due_of : Plan → Option (List (List ℕ × List ℕ)) → List ℕ → Option (Due End)
due_of (owes job) files input = Some (job.whole input)
due_of (fetches name next) None input = None
due_of (fetches name next) (Some files) input = due_by (file_named name files) (λ bytes. due_of (next bytes) (Some files) input)

-- why a fetch ended the run, and how
abbrev pub FetchEnds : CabinetTold → CabinetTold → List ℕ → End → Type 0
FetchEnds old new name end =
    ((end ≡ ReadFault) × FetchFailed old new name) ⊎ ((end ≡ NoMemory) × FetchHadNoMemory old new)

-- How a run by a plan ended, between two moments of the cabinet and of the port: a fetch ended it, with the port left
-- alone, or its job did, after all files came. A job that neither reads nor gives leaves the port alone too.
abbrev pub PlanEnds : {P : Type 0} → (P → Told) → Plan → CabinetTold → CabinetTold → P → P → End → Type 0
PlanEnds told (owes job) files_old files_new old new end =
    (files_new ≡ files_old) × Ends job (told old) (told new) end × (IsSilent job → new ≡ old)
PlanEnds told (fetches name next) files_old files_new old new end =
    (FetchEnds files_old files_new name end × (new ≡ old))
    ⊎ ((mid : CabinetTold) × (bytes : List ℕ) × Fetched files_old mid name most_fetched bytes
    × PlanEnds told (next bytes) mid files_new old new end)

-- a plan whose job neither reads nor gives, whatever the files hold
abbrev pub IsSilentPlan : Plan → Type 0
IsSilentPlan (owes job) = IsSilent job
IsSilentPlan (fetches name next) = (bytes : List ℕ) → IsSilentPlan (next bytes)

-- the files are told, and one of these names isn't there
abbrev pub LacksOne : Option (List (List ℕ × List ℕ)) → List (List ℕ) → Type 0
LacksOne files [] = ⊥
LacksOne files (name ∷ names) = Lacks files name ⊎ LacksOne files names
