use Rattle.sc_codefile.specs.CertificateFile.{certificate_faults}
use Rattle.sc_codefile.proofs.FaultSteps.{same_refusal}
use Rattle.sc_codefile.proofs.CertificateSteps.{same_certificate, no_fault-certificate, some_certificate-no_fault, refused-certificate}
use Rattle.sc_codefile.proofs.laws.one_certificate_file.Goals as goal

pub returns-clause-certificate : goal.returns-clause-certificate
returns-clause-certificate c = same_certificate

pub returns-clause-no_fault : goal.returns-clause-no_fault
returns-clause-no_fault c = no_fault-certificate

pub returns-clause-some_certificate : goal.returns-clause-some_certificate
returns-clause-some_certificate c = some_certificate-no_fault

pub returns-clause-refused : goal.returns-clause-refused
returns-clause-refused c = refused-certificate

pub returns-clause-refusal : goal.returns-clause-refusal
returns-clause-refusal c = same_refusal certificate_faults
