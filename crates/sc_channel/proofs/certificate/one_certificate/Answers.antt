use Rattle.sc_channel.proofs.CertificateLaws.{is_certificate-to, is_certificate-from}
use Rattle.sc_channel.proofs.certificate.one_certificate.Goals as goal

pub returns : goal.returns
returns c = λ numbers. (is_certificate-to numbers, is_certificate-from numbers)
