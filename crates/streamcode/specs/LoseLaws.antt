-- What is said of `lose` in the format's own words.
use Rattle.std.specs.Prelude.{◌≡◌, ◌↔◌, ℕ, ◌<◌, ◌≤◌, Bool, true, false, Some, List, [], ◌∷◌, codes, length, Ok}
use Rattle.sc_outside.specs.Cabinet.{file_named}
use Rattle.sc_outside.specs.Ends.{Due}
use Rattle.sc_channel.specs.Channel.{ChannelNumbers}
use Rattle.sc_channel.specs.Flags.{set_count}
use Rattle.sc_channel.specs.Loss.{IsAdmissible}
use Rattle.sc_code.specs.declared.code.CodeFile.{CodeFile}
use Rattle.sc_codefile.specs.Reading.{code_reading, loss_reading}
use Rattle.sc_rtpdump.specs.declared.fault.DumpFault.TheVariants.{Preamble, RecordHead, RecordLength, Truncated}
use Rattle.sc_rtpdump.specs.Record.{Record, length_field}
use Rattle.sc_rtpdump.specs.Capture.{Parts, IsCapture, AreBytes, IsReading, BeginsOtherwise}
use Rattle.sc_rtpdump.specs.Head.{IsPartHead, IsPartBody}
use Rattle.sc_rtpdump.specs.Thin.{thinned}
use Rattle.streamcode.specs.declared.end.End.{End}
use Rattle.streamcode.specs.declared.end.End.TheVariants.{Thinned, Capture, MoreRecords, FewerRecords}
use Rattle.streamcode.specs.End.{status_of}
use Rattle.streamcode.specs.Jobs.{lose_job}
use Rattle.streamcode.specs.Plans.{most_fetched, due_of}
use Rattle.streamcode.specs.Runs.{plan_of}

-- what is due for `lose` with this channel and this loss, where this is the whole input
abbrev pub due_of_lose : ChannelNumbers → List Bool → List ℕ → Due End
due_of_lose channel flags input = (lose_job channel flags).whole input

-- The files of two names are there, with fewer bytes than the limit, and are this code file and this loss.
pub record AreFilesOf (files : List (List ℕ × List ℕ)) (code loss : List ℕ) (file : CodeFile) (flags : List Bool) : Type 0 where
  pub code_bytes : List ℕ
  pub code_there : file_named code files ≡ Some code_bytes
  pub code_short : length code_bytes < most_fetched
  pub code_is : code_reading code_bytes ≡ Ok file
  pub loss_bytes : List ℕ
  pub loss_there : file_named loss files ≡ Some loss_bytes
  pub loss_short : length loss_bytes < most_fetched
  pub loss_is : loss_reading loss_bytes ≡ Ok flags

-- then what is due for the words is what is due for the channel of the code file and the flags of the loss
abbrev pub FilesSayWhatIsDue : Type 0
FilesSayWhatIsDue = (files : List (List ℕ × List ℕ)) (code loss : List ℕ) (file : CodeFile) (flags : List Bool) (input : List ℕ) → AreFilesOf files code loss file flags
    → due_of (plan_of (codes "lose" ∷ code ∷ loss ∷ [])) (Some files) input ≡ Some (due_of_lose file.channel flags input)

-- a capture with as many records as flags, and an admissible loss: the thinned capture is due, with status 0
abbrev pub ThinnedAreDue : Type 0
ThinnedAreDue = (channel : ChannelNumbers) (flags : List Bool) (input preamble : List ℕ) (records : List Record)
    → IsCapture input preamble records → length records ≡ length flags → IsAdmissible channel flags
    → due_of_lose channel flags input ≡ record {
      answer = Thinned (record { records = length flags; lost = set_count flags });
      text = thinned flags preamble records;
      at_end = true;
    }

-- an input that is a capture with as many records as flags
pub record HasRecords (input : List ℕ) (flags : List Bool) : Type 0 where
  pub preamble : List ℕ
  pub records : List Record
  pub capture : IsCapture input preamble records
  pub count : length records ≡ length flags

-- status 0 is due only there
abbrev pub ZeroIsThinned : Type 0
ZeroIsThinned = (channel : ChannelNumbers) (flags : List Bool) (input : List ℕ) → AreBytes input → status_of (due_of_lose channel flags input).answer ≡ 0
    → IsAdmissible channel flags × HasRecords input flags

-- status 1 is due exactly where the loss isn't admissible
abbrev pub OneIsRefused : Type 0
OneIsRefused = (channel : ChannelNumbers) (flags : List Bool) (input : List ℕ)
    → (status_of (due_of_lose channel flags input).answer ≡ 1) ↔ (IsAdmissible channel flags → ⊥)

-- a refusal of the input, with the bytes that are given by then
abbrev pub refused : End → List ℕ → Due End
refused end text = record { answer = end; text = text; at_end = false }

-- an input that begins with no preamble is refused with nothing given
abbrev pub PreamblesAreRefused : Type 0
PreamblesAreRefused = (channel : ChannelNumbers) (flags : List Bool) (input : List ℕ) → IsAdmissible channel flags → BeginsOtherwise input
    → due_of_lose channel flags input ≡ refused (Capture Preamble) []

-- Of an input that is a preamble, whole records and a tail, the preamble is due with the records whose flag isn't set,
-- whatever refuses it: a record beyond the last flag before all else, then the tail that begins with no record, and else
-- too few records.
pub record Refusals (channel : ChannelNumbers) (flags : List Bool) (input preamble : List ℕ) (parts : Parts) : Type 0 where
  pub more : length flags < length parts.records
      → due_of_lose channel flags input ≡ refused (MoreRecords (length flags)) (thinned flags preamble parts.records)
  pub head : length parts.records ≤ length flags → IsPartHead parts.tail
      → due_of_lose channel flags input ≡ refused (Capture (RecordHead (length parts.records))) (thinned flags preamble parts.records)
  pub short : length parts.records ≤ length flags → 8 ≤ length parts.tail → length_field parts.tail < 8
      → due_of_lose channel flags input ≡ refused (Capture (RecordLength (length parts.records))) (thinned flags preamble parts.records)
  pub cut : length parts.records ≤ length flags → IsPartBody parts.tail
      → due_of_lose channel flags input ≡ refused (Capture (Truncated (length parts.records))) (thinned flags preamble parts.records)
  pub fewer : length parts.records < length flags → parts.tail ≡ []
      → due_of_lose channel flags input ≡ refused (FewerRecords (length flags) (length parts.records)) (thinned flags preamble parts.records)

abbrev pub ReadingsAreRefused : Type 0
ReadingsAreRefused = (channel : ChannelNumbers) (flags : List Bool) (input preamble : List ℕ) (parts : Parts) → IsAdmissible channel flags
    → IsReading input preamble parts → Refusals channel flags input preamble parts
