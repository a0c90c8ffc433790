-- The first residue that shows that a channel doesn't accept a certificate.
use Rattle.std.specs.Prelude.{ℕ, ◌<◌, Bool, Option, is_some, position}
use Rattle.std.specs.List.{range_with_len}
use Rattle.sc_channel.specs.Channel.{ChannelNumbers}
use Rattle.sc_channel.specs.Certificate.{CertificateNumbers, stretch}
use Rattle.sc_channel.specs.Loss.{IsAdmissible, bad_window}

-- the stretch from this residue to its deadline isn't admissible, and that from each smaller residue is
pub record IsFirstBadResidue (channel : ChannelNumbers) (certificate : CertificateNumbers) (residue : ℕ) : Type 0 where
  pub in_period : residue < certificate.period
  pub bad : ¬ IsAdmissible channel (stretch channel certificate residue)
  pub earlier_admissible : (k : ℕ) → k < residue → IsAdmissible channel (stretch channel certificate k)

-- ---- the same as a function

-- the stretch from a residue to its deadline has a window that isn't fine
abbrev pub is_bad : ChannelNumbers → CertificateNumbers → ℕ → Bool
is_bad channel certificate residue = is_some (bad_window channel (stretch channel certificate residue))

-- the first residue with such a window
abbrev pub bad_residue : ChannelNumbers → CertificateNumbers → Option ℕ
bad_residue channel certificate = position (is_bad channel certificate) (range_with_len 0 certificate.period)
