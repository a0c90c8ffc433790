-- Certificates as files: what a value has at each key, the faults in their order, and the text.
use Rattle.std.specs.Prelude.{◌≡◌, ℕ, List, [], ◌∷◌, ◌++◌, Bool, true, false, not, Option, Some, is_none, unwrap_or, option_and_then, codes, decimal}
use Rattle.serde_json.specs.Data.{Data, object, member, no_members}
use Rattle.serde_json.specs.Find.{get}
use Rattle.sc_channel.specs.Certificate.{CertificateNumbers, IsCertificate, are_residues, is_period}
use Rattle.sc_codefile.specs.declared.fault.Key.TheVariants.{Whole, Other, Lost, Period}
use Rattle.sc_codefile.specs.declared.fault.FileFault.{FileFault}
use Rattle.sc_codefile.specs.declared.fault.FileFault.TheVariants.{Shape, Range}
use Rattle.sc_codefile.specs.declared.certificate.PeriodNumbers.{PeriodNumbers}
use Rattle.sc_codefile.specs.Value.{IsValueOf, is_object, has_other_key, whole_number, list_of, array_of, number_value}
use Rattle.sc_codefile.specs.Fault.{fails}
use Rattle.sc_codefile.specs.CodeText.{list_text}

-- the keys of a certificate
abbrev pub certificate_keys : List (List ℕ)
certificate_keys = codes "lost" ∷ codes "period" ∷ []

-- a list of whole numbers at `lost`
unfoldable pub lost_at : Data → Option (List ℕ)
lost_at d = option_and_then (list_of whole_number) (get (codes "lost") d)

-- a whole number at `period`
unfoldable pub period_at : Data → Option ℕ
period_at d = option_and_then whole_number (get (codes "period") d)

-- The faults of a value as a certificate, in their order: the shapes of both keys come before the ranges. The lost residues
-- are strictly rising, each below the period, and the period is 1 to 4,096.
abbrev pub certificate_faults : Data → List (Bool × FileFault)
certificate_faults d =
    (not (is_object d), Shape Whole)
    ∷ (has_other_key certificate_keys d, Shape Other)
    ∷ (is_none (lost_at d), Shape Lost)
    ∷ (is_none (period_at d), Shape Period)
    ∷ (fails (are_residues (unwrap_or (period_at d) 0) 0) (lost_at d), Range Lost)
    ∷ (fails is_period (period_at d), Range Period)
    ∷ []

-- The value is an object with the two keys and no other, and it has the numbers of a certificate there.
pub record IsCertificateFile (d : Data) (certificate : CertificateNumbers) : Type 0 where
  pub keys : has_other_key certificate_keys d ≡ false
  pub lost : lost_at d ≡ Some certificate.lost
  pub period : period_at d ≡ Some certificate.period
  pub is_certificate : IsCertificate certificate

-- the bytes have a value, and it is this certificate
pub record IsCertificateText (text : List ℕ) (certificate : CertificateNumbers) : Type 0 where
  pub value : Data
  pub is_value : IsValueOf text value
  pub is_file : IsCertificateFile value certificate

-- ---- the text

-- The text of a certificate: its keys in the order of their bytes, no space, numbers in decimal, and no newline behind it.
abbrev pub certificate_text : CertificateNumbers → List ℕ
certificate_text certificate =
    codes "{\"lost\":" ++ (list_text decimal certificate.lost
    ++ (codes ",\"period\":" ++ (decimal certificate.period
    ++ codes "}")))

-- the value of a certificate
abbrev pub certificate_value : CertificateNumbers → Data
certificate_value certificate =
    object
    (member (codes "lost") (array_of number_value certificate.lost)
    (member (codes "period") (number_value certificate.period)
    no_members))

-- ---- the numbers that were read

-- the value is an object with these numbers at its keys, and no other key
pub record HasPeriodNumbers (d : Data) (n : PeriodNumbers) : Type 0 where
  pub object : is_object d ≡ true
  pub keys : has_other_key certificate_keys d ≡ false
  pub lost : lost_at d ≡ Some n.lost
  pub period : period_at d ≡ Some n.period

-- the faults of such a value, in their order
abbrev pub period_faults : PeriodNumbers → List (Bool × FileFault)
period_faults n =
    (not (are_residues n.period 0 n.lost), Range Lost)
    ∷ (not (is_period n.period), Range Period)
    ∷ []

-- the certificate has these numbers
pub record HasCertificate (n : PeriodNumbers) (certificate : CertificateNumbers) : Type 0 where
  pub lost : certificate.lost ≡ n.lost
  pub period : certificate.period ≡ n.period
  pub is_certificate : IsCertificate certificate
