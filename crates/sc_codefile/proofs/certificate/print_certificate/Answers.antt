use Rattle.std.proofs.Common.{Some, ap, ◌∙◌}
use Rattle.serde_json.specs.Written.{compact_text}
use Rattle.sc_codefile.specs.CertificateFile.{certificate_value}
use Rattle.sc_codefile.proofs.CertificateSteps.{certificate_text-value, depth-certificate, no_float-certificate, is_file-value}
use Rattle.sc_codefile.proofs.certificate.print_certificate.Goals as goal

pub returns-clause-text : goal.returns-clause-text
returns-clause-text c =
    let cert = c.args.cert.now in
    let is = c.in_ok-value.ensures.value in
    c.in_ok-to_vec.ensures.text (rw is (no_float-certificate cert)) ∙ ap compact_text is ∙ certificate_text-value cert

pub returns-clause-reads_back : goal.returns-clause-reads_back
returns-clause-reads_back c =
    let cert = c.args.cert.now in
    let is = c.in_ok-value.ensures.value in
    record {
      value = certificate_value cert;
      is_value = record { utf8 = c.in_ok-to_vec.ensures.utf8; is_read = c.in_ok-to_vec.ensures.reads_back (rw is (depth-certificate cert)) ∙ ap Some is };
      is_file = is_file-value cert c.in_ok-value.ensures.limits;
    }
