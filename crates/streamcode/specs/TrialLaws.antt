-- What is said of `trial` in the words of slots and of the streams that fit them.
use Rattle.std.specs.Prelude.{◌≡◌, ◌↔◌, ℕ, ◌<◌, ◌≤◌, false, Some, List}
use Rattle.sc_field.specs.Gf256.{gf256_product}
use Rattle.sc_outside.specs.Ends.{Due, only}
use Rattle.sc_code.specs.declared.code.CodeFile.{CodeFile}
use Rattle.sc_slots.specs.Protected.{protection_of, packet_len}
use Rattle.sc_slots.specs.Repair.{IsRecovered}
use Rattle.sc_trial.specs.declared.outcome.Trial.{Trial}
use Rattle.sc_trial.specs.GeneratedLaws.{IsWithinLimits}
use Rattle.sc_trial.specs.Trial.{trial_taken, IsTrial}
use Rattle.sc_words.specs.Words.{trial, command_of}
use Rattle.streamcode.specs.declared.end.End.{End}
use Rattle.streamcode.specs.declared.end.End.TheVariants.{PacketTooWide, Tried}
use Rattle.streamcode.specs.End.{status_of}
use Rattle.streamcode.specs.Jobs.{trial_job}
use Rattle.streamcode.specs.Plans.{due_of}
use Rattle.streamcode.specs.RepairLaws.{IsCodeFileOf}
use Rattle.streamcode.specs.Runs.{plan_of}
use Rattle.streamcode.specs.Trial.{trial_line}

-- what is due for `trial` with this code file, whatever the input is
abbrev pub due_of_trial : CodeFile → ℕ → ℕ → ℕ → List ℕ → Due End
due_of_trial file seed count size input = (trial_job file seed count size).whole input

-- What is due for words that ask for a trial, whose file is this code file, is what is due for that code file.
abbrev pub WordsSayWhatIsTried : Type 0
WordsSayWhatIsTried = (files : List (List ℕ × List ℕ)) (words : List (List ℕ)) (code : List ℕ) (file : CodeFile) (seed count size : ℕ) (input : List ℕ)
    → command_of words ≡ Some (trial code seed count size) → IsCodeFileOf files code file
    → due_of (plan_of words) (Some files) input ≡ Some (due_of_trial file seed count size input)

-- the bytes of a protected packet, and whether a record holds so many
abbrev pub packet_of : CodeFile → ℕ → ℕ
packet_of file size = packet_len (protection_of file size)

abbrev pub FitsRecord : CodeFile → ℕ → Type 0
FitsRecord file size = packet_of file size ≤ 65527

-- The slot of this packet is recovered: all streams that fit the slots that the loss leaves, up to its deadline, have one block.
abbrev pub ComesBack : CodeFile → ℕ → ℕ → ℕ → ℕ → Type 0
ComesBack file seed count size t =
    (block : List (List ℕ)) × IsRecovered 0 gf256_product file.code.k (protection_of file size).m file.channel.t (trial_taken file seed count size) t block

-- the numbers of a trial are due, in its line
pub record GivesNumbers (file : CodeFile) (seed count size : ℕ) (due : Due End) : Type 0 where
  pub tried : Trial
  pub is_trial : IsTrial file seed count size tried
  pub given : due ≡ record { answer = Tried tried; text = trial_line tried; at_end = false }

-- They are due wherever a protected packet fits into a record.
abbrev pub NumbersAreDue : Type 0
NumbersAreDue = (file : CodeFile) (seed count size : ℕ) (input : List ℕ) → IsWithinLimits count size → FitsRecord file size
    → GivesNumbers file seed count size (due_of_trial file seed count size input)

-- status 0 is due exactly where besides each packet comes back
abbrev pub ZeroIsAllRecovered : Type 0
ZeroIsAllRecovered = (file : CodeFile) (seed count size : ℕ) (input : List ℕ) → IsWithinLimits count size
    → (status_of (due_of_trial file seed count size input).answer ≡ 0) ↔ (FitsRecord file size × ((t : ℕ) → t < count → ComesBack file seed count size t))

-- 5 exactly where besides one doesn't
abbrev pub FiveIsSomeMissed : Type 0
FiveIsSomeMissed = (file : CodeFile) (seed count size : ℕ) (input : List ℕ) → IsWithinLimits count size
    → (status_of (due_of_trial file seed count size input).answer ≡ 5) ↔ (FitsRecord file size × ((t : ℕ) × (t < count) × (ComesBack file seed count size t → ⊥)))

-- and 4 exactly where a protected packet is too wide, which is told, with nothing given
abbrev pub FourIsTooWide : Type 0
FourIsTooWide = (file : CodeFile) (seed count size : ℕ) (input : List ℕ) → (status_of (due_of_trial file seed count size input).answer ≡ 4) ↔ (65527 < packet_of file size)

abbrev pub WideIsTold : Type 0
WideIsTold = (file : CodeFile) (seed count size : ℕ) (input : List ℕ) → 65527 < packet_of file size
    → due_of_trial file seed count size input ≡ only (PacketTooWide (packet_of file size))
