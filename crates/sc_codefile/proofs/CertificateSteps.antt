-- A value and the certificate that it is, and the text of its value.
use Rattle.std.proofs.Common.{◌≡◌, ℕ, ◌<◌, ◌≤◌, true, false, not, List, ◌++◌, Option, Some, None, is_none, unwrap_or, get_or, nat_lt, codes, decimal, refl, sym, ap, ap₂, ◌∙◌, arith}
use Rattle.std.specs.List.{list_all}
use Rattle.std.proofs.lemmas.Bool.{not-false, and_parts, lt-ltb, leb-true}
use Rattle.std.proofs.lemmas.List.Sums.{list_all-from_AllPass}
use Rattle.std.proofs.lemmas.Option.{none-some, same_Some}
use Rattle.serde_json.specs.Data.{Data, null, boolean, number, string, array, object, member, no_members, depth}
use Rattle.serde_json.specs.Written.{compact_text, has_float}
use Rattle.serde_json.proofs.OnLiterals.{serde_json_on_literals}
use Rattle.sc_channel.specs.Certificate.{CertificateNumbers, IsCertificate, are_residues, is_period}
use Rattle.sc_channel.proofs.CertificateLaws.{are_residues-to, tests-to, residues-from, period-from}
use Rattle.sc_codefile.specs.declared.fault.FileFault.{FileFault}
use Rattle.sc_codefile.specs.declared.fault.FileFault.TheVariants.{Memory}
use Rattle.sc_codefile.specs.declared.certificate.PeriodNumbers.{PeriodNumbers}
use Rattle.sc_codefile.specs.Value.{has_other_key, is_object, array_of, number_value}
use Rattle.sc_codefile.specs.Fault.{first_of, fails, IsRefusedFor}
use Rattle.sc_codefile.specs.CodeText.{list_text}
use Rattle.sc_codefile.specs.CertificateFile.{lost_at, period_at, certificate_faults, IsCertificateFile, IsCertificateText, certificate_text, certificate_value, HasPeriodNumbers, HasCertificate}
use Rattle.sc_codefile.proofs.FaultSteps.{none_from_clear, clear_from_none, is_some_value, refused-clear}
use Rattle.sc_codefile.proofs.ValueSteps.{numbers-array}
use Rattle.sc_codefile.proofs.TextSteps.{numbers_text, numbers_depth, numbers_no_float}

-- the numbers that were read make this certificate
pub is_file-numbers : (d : Data) (n : PeriodNumbers) (certificate : CertificateNumbers) → HasPeriodNumbers d n → HasCertificate n certificate → IsCertificateFile d certificate
is_file-numbers d n certificate has made = record {
  keys = has.keys;
  lost = has.lost ∙ ap Some (sym made.lost);
  period = has.period ∙ ap Some (sym made.period);
  is_certificate = made.is_certificate;
}

-- the value of a certificate is this certificate
pub is_file-value : (certificate : CertificateNumbers) → IsCertificate certificate → IsCertificateFile (certificate_value certificate) certificate
unfolding has_other_key lost_at period_at serde_json_on_literals
is_file-value certificate is = record {
  keys = refl;
  lost = numbers-array certificate.lost;
  period = refl;
  is_certificate = is;
}

-- a value is one certificate at most
pub same_certificate : (d : Data) (certificate other : CertificateNumbers) → IsCertificateFile d certificate → IsCertificateFile d other → certificate ≡ other
same_certificate d certificate other is too =
    ap₂ (λ (p : ℕ) (xs : List ℕ). let c : CertificateNumbers = record { period = p; lost = xs } in c)
    (same_Some _ _ (sym is.period ∙ too.period)) (same_Some _ _ (sym is.lost ∙ too.lost))

object_from_lost : (d : Data) (lost : List ℕ) → lost_at d ≡ Some lost → is_object d ≡ true
unfolding is_object lost_at
object_from_lost null lost e = absurd (none-some lost e)
object_from_lost (boolean b) lost e = absurd (none-some lost e)
object_from_lost (number n) lost e = absurd (none-some lost e)
object_from_lost (string s) lost e = absurd (none-some lost e)
object_from_lost (array ds) lost e = absurd (none-some lost e)
object_from_lost (object ms) lost e = refl

pub no_fault-certificate : (d : Data) (certificate : CertificateNumbers) → IsCertificateFile d certificate → first_of (certificate_faults d) ≡ None
no_fault-certificate d certificate is =
    none_from_clear (certificate_faults d) (
      ap not (object_from_lost d certificate.lost is.lost),
      (
        is.keys,
        (
          ap is_none is.lost,
          (
            ap is_none is.period,
            (
              ap (λ (p : Option ℕ). fails (are_residues (unwrap_or p 0) 0) (lost_at d)) is.period
                  ∙ ap (fails (are_residues certificate.period 0)) is.lost ∙ ap not (residues-from certificate is.is_certificate),
              (
                ap (fails is_period) is.period ∙ ap not (period-from certificate is.is_certificate),
                tt,
              ),
            ),
          ),
        ),
      ),
    )

pub some_certificate-no_fault : (d : Data) → first_of (certificate_faults d) ≡ None → (certificate : CertificateNumbers) × IsCertificateFile d certificate
some_certificate-no_fault d none =
    let p1 = clear_from_none (certificate_faults d) none in
    let p2 = p1.1 in
    let p3 = p2.1 in
    let p4 = p3.1 in
    let p5 = p4.1 in
    let p6 = p5.1 in
    let l = is_some_value (lost_at d) p3.0 in
    let p = is_some_value (period_at d) p4.0 in
    let certificate : CertificateNumbers = record { period = p.0; lost = l.0 } in
    let residues : are_residues p.0 0 l.0 ≡ true =
    not-false _ (sym (ap (λ (x : Option ℕ). fails (are_residues (unwrap_or x 0) 0) (lost_at d)) p.1 ∙ ap (fails (are_residues p.0 0)) l.1) ∙ p5.0) in
    let period : is_period p.0 ≡ true = not-false _ (sym (ap (fails is_period) p.1) ∙ p6.0) in
    (certificate, record { keys = p2.0; lost = l.1; period = p.1; is_certificate = tests-to certificate residues period })

pub refused-certificate : (text : List ℕ) (certificate : CertificateNumbers) (fault : FileFault) → IsCertificateText text certificate → IsRefusedFor certificate_faults text fault → fault ≡ Memory
refused-certificate text certificate fault is refused =
    refused-clear certificate_faults text fault is.value is.is_value (no_fault-certificate is.value certificate is.is_file) refused

-- residues in range fit 32 bits
pub residues_fit : (period : ℕ) (lost : List ℕ) → are_residues period 0 lost ≡ true → is_period period ≡ true → list_all (λ x. nat_lt x 4096) lost ≡ true
residues_fit period lost residues fits =
    let are = are_residues-to period 0 lost residues in
    list_all-from_AllPass (λ x. nat_lt x 4096) lost (λ i d within.
    let below : get_or lost i d < period = are.in_period i d within in
    lt-ltb (get_or lost i d) 4096 (omega (arith, leb-true period 4096 (and_parts _ _ fits).1)))

-- ---- the text

object_text : (lost : Data) (period : ℕ) (l : List ℕ) → compact_text lost ≡ l
    → compact_text (object (member (codes "lost") lost (member (codes "period") (number_value period) no_members)))
    ≡ codes "{\"lost\":" ++ (l ++ (codes ",\"period\":" ++ (decimal period ++ codes "}")))
unfolding serde_json_on_literals
object_text lost period l shows = rw shows refl

pub certificate_text-value : (certificate : CertificateNumbers) → compact_text (certificate_value certificate) ≡ certificate_text certificate
certificate_text-value certificate =
    object_text (array_of number_value certificate.lost) certificate.period (list_text decimal certificate.lost) (numbers_text certificate.lost)

pub depth-certificate : (certificate : CertificateNumbers) → depth (certificate_value certificate) ≤ 127
depth-certificate certificate = omega (arith, numbers_depth certificate.lost)

pub no_float-certificate : (certificate : CertificateNumbers) → has_float (certificate_value certificate) ≡ false
no_float-certificate certificate = rw (numbers_no_float certificate.lost) refl
