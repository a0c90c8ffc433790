-- Certificates, of this project: a periodic loss, and when a channel admits it.
use Rattle.std.specs.Prelude.{◌==◌, ◌&&◌, ℕ, ◌+◌, ◌%◌, ◌<◌, ◌≤◌, Bool, true, List, [], ◌∷◌, map, nat_lt, nat_le}
use Rattle.std.specs.List.{All, list_any, range_with_len}
use Rattle.std.specs.List.Sorted.{IsStrictlyIncreasing}
use Rattle.sc_channel.specs.Channel.{ChannelNumbers}
use Rattle.sc_channel.specs.Loss.{IsAdmissible}

-- a period in slots, and the residues that are lost
pub record CertificateNumbers : Type 0 where
  pub period : ℕ
  pub lost : List ℕ

-- The period is 1 to 4,096, and the lost residues are strictly rising, each below the period.
pub record IsCertificate (certificate : CertificateNumbers) : Type 0 where
  pub some_slot : 1 ≤ certificate.period
  pub period_limit : certificate.period ≤ 4096
  pub in_order : IsStrictlyIncreasing certificate.lost
  pub in_period : All (λ residue. residue < certificate.period) certificate.lost

-- the periodic loss: a slot is lost where its residue by the period is a lost one
abbrev pub is_lost : CertificateNumbers → ℕ → Bool
is_lost certificate slot = list_any (λ residue. slot % certificate.period == residue) certificate.lost

-- the flags of `count` slots of the periodic loss, from slot `start` on
abbrev pub periodic_flags : CertificateNumbers → ℕ → ℕ → List Bool
periodic_flags certificate start count = map (is_lost certificate) (range_with_len start count)

-- the flags of the slots from one with this residue to its deadline
abbrev pub stretch : ChannelNumbers → CertificateNumbers → ℕ → List Bool
stretch channel certificate residue = periodic_flags certificate residue (channel.t + 1)

-- A channel accepts a certificate where every stretch of the periodic loss, from a slot to its deadline, is admissible.
pub record IsAccepted (channel : ChannelNumbers) (certificate : CertificateNumbers) : Type 0 where
  pub each : (residue : ℕ) → residue < certificate.period → IsAdmissible channel (stretch channel certificate residue)

-- ---- tests of the same

abbrev pub is_period : ℕ → Bool
is_period period = nat_le 1 period && nat_le period 4096

-- the numbers are strictly rising, at least `least` and below the period
abbrev pub are_residues : ℕ → ℕ → List ℕ → Bool
are_residues period least [] = true
are_residues period least (residue ∷ more) = nat_le least residue && nat_lt residue period && are_residues period (residue + 1) more

unfoldable pub is_certificate : CertificateNumbers → Bool
is_certificate c = are_residues c.period 0 c.lost && is_period c.period
