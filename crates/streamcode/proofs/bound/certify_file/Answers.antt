use Rattle.streamcode.proofs.JobLaws.{certify_refused, certify_memory}
use Rattle.streamcode.proofs.bound.certify_file.Goals as goal

pub returns-in-Some-clause-ends : goal.returns-in-Some-clause-ends
returns-in-Some-clause-ends g c =
    certify_refused c.args.file.now c.args.certificate.now (g.P.Port.told c.args.port.now) c.in-Some.residue c.in-Some.ensures.value

pub returns-in-Err-clause-ends : goal.returns-in-Err-clause-ends
returns-in-Err-clause-ends g c = certify_memory c.args.file.now c.args.certificate.now (g.P.Port.told c.args.port.now)
