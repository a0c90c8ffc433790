-- What a run of the program owes by the words of its command line, with one case a command, and how a run ends.
use Rattle.std.specs.Prelude.{◌≡◌, ◌⊎◌, ℕ, ◌-◌, ◌^◌, ◌<◌, false, Option, Some, None, List, [], ◌∷◌}
use Rattle.std.specs.Io.KnownBytes.{Appends}
use Rattle.sc_outside.specs.Cabinet.{CabinetTold}
use Rattle.sc_outside.specs.Ends.{Due}
use Rattle.sc_outside.specs.Faults.{Rose}
use Rattle.sc_outside.specs.Port.{Told}
use Rattle.sc_outside.specs.Sink.{SinkTold}
use Rattle.streamcode.specs.declared.end.End.{End}
use Rattle.streamcode.specs.declared.end.End.TheVariants.{Usage}
use Rattle.streamcode.specs.End.{status_of, note_of, IsTold}
use Rattle.streamcode.specs.Jobs.{refusal, lose_job, gen_job, protect_job, repair_job, check_job, bound_job, certify_job, design_job, trial_job}
use Rattle.streamcode.specs.Plans.{Plan, owes, PlanEnds}
use Rattle.streamcode.specs.Files.{code_plan, certificate_plan, loss_plan}
use Rattle.sc_words.specs.Words.{Command, lose, generate, protect, check, repair, bound, certify, design, trial, command_of}

-- what is owed by a command
abbrev pub command_plan : Option Command → Plan
command_plan None = owes (refusal false Usage)
command_plan (Some (lose code loss)) = code_plan code (λ file. loss_plan loss (λ flags. owes (lose_job file.channel flags)))
command_plan (Some (generate seed count size)) = owes (gen_job seed count size)
command_plan (Some (protect code size)) = code_plan code (λ file. owes (protect_job file size))
command_plan (Some (check code workers)) = code_plan code (λ file. owes (check_job file))
command_plan (Some (repair code)) = code_plan code (λ file. owes (repair_job file))
command_plan (Some (bound channel)) = owes (bound_job channel)
command_plan (Some (certify code cert)) = code_plan code (λ file. certificate_plan cert (λ certificate. owes (certify_job file certificate)))
command_plan (Some (design kind channel)) = owes (design_job kind channel)
command_plan (Some (trial code seed count size)) = code_plan code (λ file. owes (trial_job file seed count size))

-- the files that a command names, in the order of its words
abbrev pub files_of : Option Command → List (List ℕ)
files_of None = []
files_of (Some (lose code loss)) = code ∷ loss ∷ []
files_of (Some (generate seed count size)) = []
files_of (Some (protect code size)) = code ∷ []
files_of (Some (check code workers)) = code ∷ []
files_of (Some (repair code)) = code ∷ []
files_of (Some (bound channel)) = []
files_of (Some (certify code cert)) = code ∷ cert ∷ []
files_of (Some (design kind channel)) = []
files_of (Some (trial code seed count size)) = code ∷ []

-- what is owed by these words
abbrev pub plan_of : List (List ℕ) → Plan
plan_of words = command_plan (command_of words)

-- How a run ended: by its plan, its status is that of its end, and the sink was told its note.
pub record RunEnds {P : Type 0} (told : P → Told) (plan : Plan) (files_old files_new : CabinetTold) (old new : P)
    (notes_old notes_new : SinkTold) (status : ℕ) : Type 0 where
  pub end : End
  pub ends : PlanEnds told plan files_old files_new old new end
  pub status_is : status_of end ≡ status
  pub noted : IsTold notes_old notes_new (note_of end)

-- the status is the one that is due, and so is what was given
pub record IsDueStatus (due : Due End) (old new : Told) (status : ℕ) : Type 0 where
  pub status_is : status_of due.answer ≡ status
  pub given : Appends old.given new.given due.text

-- a read of the input failed, or a fetch
abbrev pub ReadRose : CabinetTold → CabinetTold → Told → Told → Type 0
ReadRose files_old files_new old new = Rose old.read_faults new.read_faults ⊎ Rose files_old.faults files_new.faults

-- the outside ended the run: a read failed, or a fetch, a write failed, or memory ran out
abbrev pub IsOutsideStatus : CabinetTold → CabinetTold → Told → Told → ℕ → Type 0
IsOutsideStatus files_old files_new old new status =
    ((status ≡ 7) × ReadRose files_old files_new old new)
    ⊎ (((status ≡ 8) × Rose old.write_faults new.write_faults) ⊎ (status ≡ 9))

-- no fault was counted, and none was at its last value
pub record IsQuiet (files_old files_new : CabinetTold) (old new : Told) : Type 0 where
  pub fetches : files_new.faults ≡ files_old.faults
  pub reads : new.read_faults ≡ old.read_faults
  pub writes : new.write_faults ≡ old.write_faults
  pub room_fetches : files_old.faults < 2 ^ 64 - 1
  pub room_reads : old.read_faults < 2 ^ 64 - 1
  pub room_writes : old.write_faults < 2 ^ 64 - 1
