use Rattle.std.proofs.Common.{◌≡◌, Option, IfSome, subst}
use Rattle.sc_channel.specs.Certificate.{CertificateNumbers}
use Rattle.sc_rate.proofs.StandardSteps.{standard-IsCertificate, standard-IsAccepted}
use Rattle.sc_rate.proofs.make_standard.standard.Goals as goal

pub unwrap-requires : goal.unwrap-requires
unwrap-requires c =
    let channel = c.args.channel.now in
    c.new.ensures.accepted.1
    (rw (c.standard_numbers-period.ensures.period, c.in_ok-lost.ensures, c.standard_numbers-period.ensures.lost)
    (standard-IsCertificate channel c.standard_numbers-period.ensures.limits))

pub returns-clause-accepted : goal.returns-clause-accepted
returns-clause-accepted c =
    let channel = c.args.channel.now in
    let made : c.unwrap.result ≡ record { period = c.standard_numbers-period.result.0; lost = c.in_ok-lost.lost.items } =
    subst (λ (o : Option CertificateNumbers). IfSome o (λ cert. cert ≡ record { period = c.standard_numbers-period.result.0; lost = c.in_ok-lost.lost.items })) c.unwrap.ensures c.new.ensures.numbers in
    rw (made, c.standard_numbers-period.ensures.period, c.in_ok-lost.ensures, c.standard_numbers-period.ensures.lost)
    (standard-IsAccepted channel c.standard_numbers-period.ensures.limits)
