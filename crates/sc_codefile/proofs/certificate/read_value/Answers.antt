use Rattle.std.proofs.lemmas.Result.{IfOk-weaker}
use Rattle.serde_json.specs.View.{view}
use Rattle.sc_codefile.proofs.CertificateSteps.{is_file-numbers}
use Rattle.sc_codefile.proofs.certificate.read_value.Goals as goal

pub returns-clause-file : goal.returns-clause-file
returns-clause-file c =
    IfOk-weaker c.certificate_of.result _ _ (λ certificate made. record {
      value = view c.in_ok-value.value;
      is_value = c.in_ok-value.ensures.value;
      is_file = is_file-numbers (view c.in_ok-value.value) c.in_ok-numbers.numbers certificate c.in_ok-numbers.ensures.numbers made;
    }) c.certificate_of.ensures.file
