-- The laws of `check`, in the words of codes.
use Rattle.std.specs.Prelude.{◌≡◌, ◌↔◌, ℕ, ◌<◌, ◌≤◌, false, List}
use Rattle.sc_field.specs.Gf256.{gf256_product}
use Rattle.sc_matrix.specs.Module.{IsByte}
use Rattle.sc_outside.specs.Ends.{Due, only}
use Rattle.sc_channel.specs.Channel.{IsChannel}
use Rattle.sc_channel.specs.Classes.{class_count}
use Rattle.sc_code.specs.Code.{IsCode}
use Rattle.sc_code.specs.Determined.{Meets}
use Rattle.sc_code.specs.declared.code.CodeFile.{CodeFile}
use Rattle.sc_check.specs.Answer.{Refuted}
use Rattle.sc_check.specs.Verdict.{IsLeastRefutation}
use Rattle.streamcode.specs.declared.end.End.{End}
use Rattle.streamcode.specs.declared.end.End.TheVariants.{Accepted, Refused, TooManyClasses}
use Rattle.streamcode.specs.End.{status_of}
use Rattle.streamcode.specs.Jobs.{check_job}
use Rattle.streamcode.specs.Verdict.{meets_text, fails_text}

-- what is due for `check` with this code file, whatever the input is
abbrev pub due_of_check : CodeFile → List ℕ → Due End
due_of_check file input = (check_job file).whole input

-- a file's numbers are those of a channel and of a code, and the channel hasn't more classes than a check takes
pub record MayCheck (file : CodeFile) : Type 0 where
  pub channel : IsChannel file.channel
  pub code : IsCode IsByte file.code
  pub few : class_count file.channel ≤ 1000000

-- the code of a file meets its channel: every block is determined by its deadline under every admissible loss
abbrev pub FileMeets : CodeFile → Type 0
FileMeets file = Meets 0 gf256_product file.code file.channel

-- status 0 is due exactly where the code meets its channel
abbrev pub ZeroIsMeeting : Type 0
ZeroIsMeeting = (file : CodeFile) (input : List ℕ) → MayCheck file → (status_of (due_of_check file input).answer ≡ 0) ↔ FileMeets file

-- and then the line of the code
abbrev pub MeetingIsPrinted : Type 0
MeetingIsPrinted = (file : CodeFile) (input : List ℕ) → MayCheck file → FileMeets file
    → due_of_check file input ≡ record { answer = Accepted; text = meets_text file; at_end = false }

-- the least refutation of a code is printed
pub record PrintsRefutation (file : CodeFile) (due : Due End) : Type 0 where
  pub refuted : Refuted
  pub is_least : IsLeastRefutation file.code file.channel refuted.index refuted.class refuted.stream
  pub printed : due ≡ record { answer = Refused; text = fails_text file.code.k refuted; at_end = false }

-- status 1 is due exactly where it doesn't, with its least refutation
abbrev pub OneIsRefuted : Type 0
OneIsRefuted = (file : CodeFile) (input : List ℕ) → MayCheck file → (status_of (due_of_check file input).answer ≡ 1) ↔ (FileMeets file → ⊥)

abbrev pub RefutationIsPrinted : Type 0
RefutationIsPrinted = (file : CodeFile) (input : List ℕ) → MayCheck file → (FileMeets file → ⊥) → PrintsRefutation file (due_of_check file input)

-- a channel with more classes is refused, with their number
abbrev pub ManyAreRefused : Type 0
ManyAreRefused = (file : CodeFile) (input : List ℕ) → 1000000 < class_count file.channel → due_of_check file input ≡ only (TooManyClasses (class_count file.channel))
