-- The candidates of each kind of maker.
use Rattle.std.specs.Prelude.{◌≡◌, ℕ, ◌<◌, ◌≤◌, ⊤}
use Rattle.sc_field.specs.Gf256.{gf256_product}
use Rattle.sc_code.specs.Code.{Code}
use Rattle.sc_code.specs.Determined.{Meets}
use Rattle.sc_channel.specs.Channel.{ChannelNumbers}
use Rattle.sc_ms.specs.Burst.{burst_code, burst_width}
use Rattle.sc_layered.specs.Layered.{layered_code, layered_width}
use Rattle.sc_optimal.specs.declared.kind.MakerKind.{MakerKind}
use Rattle.sc_optimal.specs.declared.kind.MakerKind.TheVariants.{Ms, Layered, Optimal}
use Rattle.sc_ms.specs.declared.burst.MakeFault.{MakeFault}
use Rattle.sc_ms.specs.declared.burst.MakeFault.TheVariants as of_ms
use Rattle.sc_layered.specs.declared.layered.WideFault.{WideFault}
use Rattle.sc_layered.specs.declared.layered.WideFault.TheVariants as of_layered
use Rattle.sc_optimal.specs.declared.kind.DesignFault.{DesignFault}
use Rattle.sc_optimal.specs.declared.kind.DesignFault.TheVariants.{NotBurst, TooWide, TooManyClasses, NoCode, Memory}
use Rattle.sc_optimal.specs.Optimal.{optimal_code, optimal_width}

-- the candidate of a number
abbrev pub candidate : MakerKind → ChannelNumbers → ℕ → Code ℕ
candidate Ms channel c = burst_code channel
candidate Layered channel c = layered_code channel c
candidate Optimal channel c = optimal_code channel c

-- how many candidates there are, counted from 0
abbrev pub candidate_count : MakerKind → ℕ
candidate_count Ms = 1
candidate_count Layered = 16
candidate_count Optimal = 256

-- the number of symbols of each candidate, in block and parity
abbrev pub candidate_width : MakerKind → ChannelNumbers → ℕ
candidate_width Ms channel = burst_width channel
candidate_width Layered channel = layered_width channel
candidate_width Optimal channel = optimal_width channel

-- the kind is for bursts alone, and the channel has more than one erasure anywhere in a window
abbrev pub IsNotBurst : MakerKind → ChannelNumbers → Type 0
IsNotBurst Ms channel = 1 < channel.n
IsNotBurst Layered channel = ⊥
IsNotBurst Optimal channel = ⊥

-- the kind has candidates for the channel
pub record HasCandidates (kind : MakerKind) (channel : ChannelNumbers) : Type 0 where
  pub burst : ¬ IsNotBurst kind channel
  pub width : candidate_width kind channel ≤ 64

-- the candidates have so many symbols, which is too many
pub record IsTooWide (kind : MakerKind) (channel : ChannelNumbers) (symbols : ℕ) : Type 0 where
  pub burst : ¬ IsNotBurst kind channel
  pub many : 64 < symbols
  pub width : symbols ≡ candidate_width kind channel

-- the candidate of a number meets the channel
abbrev pub IsGood : MakerKind → ChannelNumbers → ℕ → Type 0
IsGood kind channel c = Meets 0 gf256_product (candidate kind channel c) channel

-- ---- why a candidate isn't made

abbrev pub IsMakeFault : MakerKind → ChannelNumbers → DesignFault → Type 0
IsMakeFault kind channel NotBurst = IsNotBurst kind channel
IsMakeFault kind channel (TooWide symbols) = IsTooWide kind channel symbols
IsMakeFault kind channel (TooManyClasses count) = ⊥
IsMakeFault kind channel NoCode = ⊥
IsMakeFault kind channel Memory = ⊤

abbrev pub burst_fault : MakeFault → DesignFault
burst_fault of_ms.NotBurst = NotBurst
burst_fault (of_ms.TooWide symbols) = TooWide symbols
burst_fault of_ms.Memory = Memory

abbrev pub wide_fault : WideFault → DesignFault
wide_fault (of_layered.TooWide symbols) = TooWide symbols
wide_fault of_layered.Memory = Memory
