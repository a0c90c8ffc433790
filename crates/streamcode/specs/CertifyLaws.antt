-- The laws of `certify`, in the words of codes.
use Rattle.std.specs.Prelude.{◌≡◌, ◌↔◌, ◌≢◌, ℕ, ◌+◌, ◌*◌, ◌^◌, ◌≤◌, false, List}
use Rattle.sc_outside.specs.Ends.{Due, only}
use Rattle.sc_channel.specs.Certificate.{CertificateNumbers, IsCertificate, IsAccepted}
use Rattle.sc_code.specs.Code.{IsCode}
use Rattle.sc_matrix.specs.Module.{IsByte}
use Rattle.sc_code.specs.declared.code.CodeFile.{CodeFile}
use Rattle.sc_rate.specs.Compared.{compared}
use Rattle.sc_rate.specs.Rate.{kept_count}
use Rattle.sc_rate.specs.Residue.{IsFirstBadResidue}
use Rattle.sc_rate.specs.TableCode.{IsTable, TableMeets}
use Rattle.sc_rate.specs.declared.rate.Rate.TheVariants.{Above}
use Rattle.streamcode.specs.declared.end.End.{End}
use Rattle.streamcode.specs.declared.end.End.TheVariants.{Accepted, CertificateRefused}
use Rattle.streamcode.specs.End.{status_of}
use Rattle.streamcode.specs.Bound.{bound_line}
use Rattle.streamcode.specs.CheckLaws.{FileMeets}
use Rattle.streamcode.specs.Jobs.{certify_job}

-- what is due for `certify` with this code file and this certificate, whatever the input is
abbrev pub due_of_certify : CodeFile → CertificateNumbers → List ℕ → Due End
due_of_certify file certificate input = (certify_job file certificate).whole input

-- status 0 is due exactly where the channel accepts the certificate
abbrev pub ZeroIsAccepted : Type 0
ZeroIsAccepted = (file : CodeFile) (certificate : CertificateNumbers) (input : List ℕ)
    → (status_of (due_of_certify file certificate input).answer ≡ 0) ↔ IsAccepted file.channel certificate

-- and then the bound is printed, with the rate of the code beside it
abbrev pub BoundIsPrinted : Type 0
BoundIsPrinted = (file : CodeFile) (certificate : CertificateNumbers) (input : List ℕ) → IsAccepted file.channel certificate
    → due_of_certify file certificate input ≡ record { answer = Accepted; text = bound_line file.code certificate; at_end = false }

-- Then it bounds the rate of every causal code for the channel: a table with a symbols in and b symbols out that meets the
-- channel up to a horizon that is long enough has a ^ period no more than b ^ kept slots.
abbrev pub AcceptedBoundsRates : Type 0
AcceptedBoundsRates = (file : CodeFile) (certificate : CertificateNumbers) (input : List ℕ) → IsCertificate certificate
    → status_of (due_of_certify file certificate input).answer ≡ 0
    → (a b horizon : ℕ) (table : List ℕ → ℕ) → 1 ≤ a → 1 ≤ b → IsTable a b horizon table → TableMeets file.channel a horizon table
    → certificate.period * b ^ (kept_count certificate + file.channel.t) + file.channel.t ≤ horizon
    → a ^ certificate.period ≤ b ^ kept_count certificate

-- so a code that meets its channel is never told to be above the bound
abbrev pub NeverAbove : Type 0
NeverAbove = (file : CodeFile) (certificate : CertificateNumbers) (input : List ℕ) → IsCode IsByte file.code → IsCertificate certificate → FileMeets file
    → status_of (due_of_certify file certificate input).answer ≡ 0 → compared file.code certificate ≢ Above

-- the first bad residue of a certificate is told, and nothing is given
pub record TellsResidue (file : CodeFile) (certificate : CertificateNumbers) (due : Due End) : Type 0 where
  pub residue : ℕ
  pub is_first : IsFirstBadResidue file.channel certificate residue
  pub told : due ≡ only (CertificateRefused residue)

-- a certificate that the channel doesn't accept is refused, with status 1
abbrev pub ResidueIsTold : Type 0
ResidueIsTold = (file : CodeFile) (certificate : CertificateNumbers) (input : List ℕ) → (IsAccepted file.channel certificate → ⊥)
    → TellsResidue file certificate (due_of_certify file certificate input)
