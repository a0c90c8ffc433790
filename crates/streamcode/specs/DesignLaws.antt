-- The laws of `design`, in the words of codes.
use Rattle.std.specs.Prelude.{◌≡◌, ◌⊎◌, ◌↔◌, ℕ, ◌+◌, false, List}
use Rattle.sc_outside.specs.Ends.{Due}
use Rattle.sc_channel.specs.Channel.{ChannelNumbers, IsChannel}
use Rattle.sc_channel.specs.Classes.{class_count}
use Rattle.sc_code.specs.declared.code.CodeFile.{CodeFile}
use Rattle.sc_optimal.specs.declared.design.Found.{Found}
use Rattle.sc_optimal.specs.Candidates.{candidate_width, IsNotBurst, IsTooWide}
use Rattle.sc_optimal.specs.Design.{IsDesigned, HasManyClasses, HasNoCode}
use Rattle.sc_words.specs.declared.words.Kind.{Kind}
use Rattle.streamcode.specs.declared.end.End.{End}
use Rattle.streamcode.specs.declared.end.End.TheVariants.{Designed, Accepted}
use Rattle.streamcode.specs.End.{status_of}
use Rattle.streamcode.specs.Jobs.{maker_of, design_text, design_job}
use Rattle.streamcode.specs.CheckLaws.{due_of_check, FileMeets}
use Rattle.streamcode.specs.Verdict.{meets_text}

-- what is due for `design` with this kind and this channel, whatever the input is
abbrev pub due_of_design : Kind → ChannelNumbers → List ℕ → Due End
due_of_design kind channel input = (design_job kind channel).whole input

-- the code file of what was found for a channel
abbrev pub file_of : ChannelNumbers → Found → CodeFile
file_of channel found = record { channel = channel; code = found.code }

-- The least candidate that meets its channel is given: `IsDesigned` says that it is one, that it meets the channel and that no
-- candidate before it does. So the file's code meets the file's channel, and `check` accepts it.
pub record GivesFirst (kind : Kind) (channel : ChannelNumbers) (input : List ℕ) : Type 0 where
  pub found : Found
  pub is_first : IsDesigned (maker_of kind) channel found
  pub meets : FileMeets (file_of channel found)
  pub given : due_of_design kind channel input ≡ record {
    answer = Designed found.candidate found.code.k (found.code.k + found.code.r);
    text = design_text channel found;
    at_end = false;
  }
  pub accepted : (other : List ℕ) → due_of_check (file_of channel found) other ≡ record { answer = Accepted; text = meets_text (file_of channel found); at_end = false }

-- status 0 is due only there
abbrev pub ZeroGivesFirst : Type 0
ZeroGivesFirst = (kind : Kind) (channel : ChannelNumbers) (input : List ℕ) → IsChannel channel → status_of (due_of_design kind channel input).answer ≡ 0 → GivesFirst kind channel input

-- and wherever there is such a candidate, it is the one that is given
abbrev pub FirstIsGiven : Type 0
FirstIsGiven = (kind : Kind) (channel : ChannelNumbers) (input : List ℕ) (found : Found) → IsChannel channel → IsDesigned (maker_of kind) channel found
    → due_of_design kind channel input ≡ record {
      answer = Designed found.candidate found.code.k (found.code.k + found.code.r);
      text = design_text channel found;
      at_end = false;
    }

-- status 10 is due exactly where the kind is for one loss anywhere and the channel isn't, or where every candidate fails
abbrev pub TenIsNoCode : Type 0
TenIsNoCode = (kind : Kind) (channel : ChannelNumbers) (input : List ℕ) → IsChannel channel
    → (status_of (due_of_design kind channel input).answer ≡ 10) ↔ (IsNotBurst (maker_of kind) channel ⊎ HasNoCode (maker_of kind) channel)

-- status 4 exactly where the candidates are too wide
abbrev pub FourIsTooWide : Type 0
FourIsTooWide = (kind : Kind) (channel : ChannelNumbers) (input : List ℕ) → IsChannel channel
    → (status_of (due_of_design kind channel input).answer ≡ 4) ↔ IsTooWide (maker_of kind) channel (candidate_width (maker_of kind) channel)

-- status 11 exactly where there are too many classes
abbrev pub ElevenIsTooMany : Type 0
ElevenIsTooMany = (kind : Kind) (channel : ChannelNumbers) (input : List ℕ) → IsChannel channel
    → (status_of (due_of_design kind channel input).answer ≡ 11) ↔ HasManyClasses (maker_of kind) channel (class_count channel)
