-- The bound of a certificate on the rate of causal codes, of this project.
use Rattle.std.specs.Prelude.{◌≡◌, ℕ, ◌+◌, ◌-◌, ◌*◌, ◌^◌, ◌≤◌, List, length}
use Rattle.sc_channel.specs.Channel.{ChannelNumbers, IsChannel}
use Rattle.sc_channel.specs.Certificate.{CertificateNumbers, IsCertificate, IsAccepted}
use Rattle.sc_rate.specs.TableCode.{IsTable, TableMeets}

-- how many slots of a period are kept
abbrev pub kept_count : CertificateNumbers → ℕ
kept_count certificate = certificate.period - length certificate.lost

-- A table with a symbols in and b symbols out that meets a channel which accepts a certificate has a rate of at most the kept
-- slots over the period, in powers: the a ^ period ways of a period's numbers are no more than the b ^ kept ways of its kept
-- slots.
abbrev pub BoundsRate : Type 0
BoundsRate = (channel : ChannelNumbers) (certificate : CertificateNumbers) (a b horizon : ℕ) (table : List ℕ → ℕ)
    → IsCertificate certificate → IsAccepted channel certificate → 1 ≤ a → 1 ≤ b
    → IsTable a b horizon table → TableMeets channel a horizon table
    → certificate.period * b ^ (kept_count certificate + channel.t) + channel.t ≤ horizon
    → a ^ certificate.period ≤ b ^ kept_count certificate

-- the same in plain numbers, where a symbol is k bytes in and n bytes out
abbrev pub BoundsByteRate : Type 0
BoundsByteRate = (channel : ChannelNumbers) (certificate : CertificateNumbers) (k n horizon : ℕ) (table : List ℕ → ℕ)
    → IsCertificate certificate → IsAccepted channel certificate
    → IsTable (256 ^ k) (256 ^ n) horizon table → TableMeets channel (256 ^ k) horizon table
    → certificate.period * (256 ^ n) ^ (kept_count certificate + channel.t) + channel.t ≤ horizon
    → k * certificate.period ≤ kept_count certificate * n

-- the premises of the bound hold, and its two sides are equal
pub record Attains (a b horizon : ℕ) (channel : ChannelNumbers) (certificate : CertificateNumbers) (table : List ℕ → ℕ) : Type 0 where
  pub is_channel : IsChannel channel
  pub is_certificate : IsCertificate certificate
  pub accepted : IsAccepted channel certificate
  pub is_table : IsTable a b horizon table
  pub meets : TableMeets channel a horizon table
  pub equal : a ^ certificate.period ≡ b ^ kept_count certificate

-- So the bound isn't empty: whatever the symbols in and the horizon, some table attains it.
abbrev pub BoundIsAttained : Type 0
BoundIsAttained = (a horizon : ℕ) → (channel : ChannelNumbers) × ((certificate : CertificateNumbers) × ((table : List ℕ → ℕ) × Attains a (a * a) horizon channel certificate table))
