-- The design of a code: the first candidate that meets the channel, or why there is none.
use Rattle.std.specs.Prelude.{◌≡◌, ℕ, zero as naught, suc, ◌+◌, ◌<◌, ◌≤◌, Bool, true, false, is_none, nat_lt, Option, Some, None, Result, Ok, Err, if◌then◌else◌, ⊤}
use Rattle.sc_channel.specs.Channel.{ChannelNumbers}
use Rattle.sc_channel.specs.Classes.{class_count}
use Rattle.sc_code.specs.Code.{Code}
use Rattle.sc_check.specs.Answer.{refuted_of}
use Rattle.sc_optimal.specs.declared.kind.MakerKind.{MakerKind}
use Rattle.sc_optimal.specs.declared.kind.MakerKind.TheVariants.{Ms, Layered, Optimal}
use Rattle.sc_optimal.specs.declared.design.Found.{Found}
use Rattle.sc_optimal.specs.declared.kind.DesignFault.{DesignFault}
use Rattle.sc_optimal.specs.declared.kind.DesignFault.TheVariants.{NotBurst, TooWide, TooManyClasses, NoCode, Memory}
use Rattle.sc_optimal.specs.Candidates.{candidate, candidate_count, candidate_width, IsNotBurst, HasCandidates, IsTooWide, IsGood}

-- the least candidate that meets the channel
pub record IsFirstGood (kind : MakerKind) (channel : ChannelNumbers) (found : Found) : Type 0 where
  pub within : found.candidate < candidate_count kind
  pub code : found.code ≡ candidate kind channel found.candidate
  pub good : IsGood kind channel found.candidate
  pub earlier : (c : ℕ) → c < found.candidate → ¬ IsGood kind channel c

-- every candidate fails
abbrev pub AllFail : MakerKind → ChannelNumbers → Type 0
AllFail kind channel = (c : ℕ) → c < candidate_count kind → ¬ IsGood kind channel c

-- The candidates can be checked: the kind has them for the channel, and there are no more classes than a check takes.
pub record IsCheckable (kind : MakerKind) (channel : ChannelNumbers) : Type 0 where
  pub candidates : HasCandidates kind channel
  pub classes : class_count channel ≤ 1000000

-- what was found
pub record IsDesigned (kind : MakerKind) (channel : ChannelNumbers) (found : Found) : Type 0 where
  pub checkable : IsCheckable kind channel
  pub first : IsFirstGood kind channel found

-- there are so many classes, which is too many
pub record HasManyClasses (kind : MakerKind) (channel : ChannelNumbers) (count : ℕ) : Type 0 where
  pub candidates : HasCandidates kind channel
  pub many : 1000000 < count
  pub classes : count ≡ class_count channel

-- no candidate is good
pub record HasNoCode (kind : MakerKind) (channel : ChannelNumbers) : Type 0 where
  pub checkable : IsCheckable kind channel
  pub fail : AllFail kind channel

-- Why there is no design: in this order, and no two of these hold. Want of memory is free.
abbrev pub IsRefusedFor : MakerKind → ChannelNumbers → DesignFault → Type 0
IsRefusedFor kind channel NotBurst = IsNotBurst kind channel
IsRefusedFor kind channel (TooWide symbols) = IsTooWide kind channel symbols
IsRefusedFor kind channel (TooManyClasses count) = HasManyClasses kind channel count
IsRefusedFor kind channel NoCode = HasNoCode kind channel
IsRefusedFor kind channel Memory = ⊤

-- ---- the same as a function

-- the kind is for bursts alone, and the channel isn't
abbrev pub is_not_burst : MakerKind → ChannelNumbers → Bool
is_not_burst Ms channel = nat_lt 1 channel.n
is_not_burst Layered channel = false
is_not_burst Optimal channel = false

-- the candidate of a number, as what was found
abbrev pub found_at : MakerKind → ChannelNumbers → ℕ → Found
found_at kind channel c = record { candidate = c; code = candidate kind channel c }

-- the first of so many candidates, from c on, that isn't refuted
unfoldable pub first_from : MakerKind → ChannelNumbers → ℕ → ℕ → Result Found DesignFault
first_from kind channel c naught = Err NoCode
first_from kind channel c (suc n) =
    if is_none (refuted_of (candidate kind channel c) channel) then Ok (found_at kind channel c) else first_from kind channel (c + 1) n

-- the one answer for a kind and a channel
unfoldable pub design_of : MakerKind → ChannelNumbers → Result Found DesignFault
design_of kind channel =
    if is_not_burst kind channel then Err NotBurst
    else (if nat_lt 64 (candidate_width kind channel) then Err (TooWide (candidate_width kind channel))
    else (if nat_lt 1000000 (class_count channel) then Err (TooManyClasses (class_count channel))
    else first_from kind channel 0 (candidate_count kind)))

-- ---- the search

-- what a check says of a candidate: its code where it meets the channel
pub record IsTriedGood (kind : MakerKind) (channel : ChannelNumbers) (c : ℕ) (code : Code ℕ) : Type 0 where
  pub code_is : code ≡ candidate kind channel c
  pub good : IsGood kind channel c
  pub kept : is_none (refuted_of (candidate kind channel c) channel) ≡ true

pub record IsTriedBad (kind : MakerKind) (channel : ChannelNumbers) (c : ℕ) : Type 0 where
  pub bad : ¬ IsGood kind channel c
  pub refuted : is_none (refuted_of (candidate kind channel c) channel) ≡ false

abbrev pub IsTried : MakerKind → ChannelNumbers → ℕ → Option (Code ℕ) → Type 0
IsTried kind channel c None = IsTriedBad kind channel c
IsTried kind channel c (Some code) = IsTriedGood kind channel c code

-- the search found the first good candidate, or there is none, or memory ran out
pub record IsFoundFirst (kind : MakerKind) (channel : ChannelNumbers) (found : Found) : Type 0 where
  pub first : IsFirstGood kind channel found
  pub answer : first_from kind channel 0 (candidate_count kind) ≡ Ok found

pub record IsFoundNone (kind : MakerKind) (channel : ChannelNumbers) : Type 0 where
  pub fail : AllFail kind channel
  pub answer : first_from kind channel 0 (candidate_count kind) ≡ Err NoCode

abbrev pub IsSearched : MakerKind → ChannelNumbers → Result Found DesignFault → Type 0
IsSearched kind channel (Ok found) = IsFoundFirst kind channel found
IsSearched kind channel (Err NoCode) = IsFoundNone kind channel
IsSearched kind channel (Err Memory) = ⊤
IsSearched kind channel (Err _) = ⊥
