use Rattle.sc_channel.specs.Certificate.{IsCertificate}
use Rattle.sc_channel.proofs.CertificateLaws.{tests-to}
use Rattle.sc_codefile.proofs.CertificateSteps.{residues_fit}
use Rattle.sc_codefile.proofs.certificate.certificate_in_range.Goals as goal

pub narrowed-requires : goal.narrowed-requires
narrowed-requires c =
    let n = c.args.numbers.now in
    rw c.as_slice.ensures (residues_fit n.period n.lost c.requires.residues c.requires.period)

pub unwrap-requires : goal.unwrap-requires
unwrap-requires c =
    let n = c.args.numbers.now in
    let is : IsCertificate (record { period = n.period; lost = n.lost }) = tests-to (record { period = n.period; lost = n.lost }) c.requires.residues c.requires.period in
    c.new.ensures.accepted.1 (rw (c.in_ok-lost.ensures, c.as_slice.ensures) is)
