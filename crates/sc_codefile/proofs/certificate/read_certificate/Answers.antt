use Rattle.sc_codefile.proofs.ReadingLaws.{certificate_reading_of}
use Rattle.sc_codefile.proofs.certificate.read_certificate.Goals as goal

pub returns-clause-reading : goal.returns-clause-reading
returns-clause-reading c = certificate_reading_of c.args.text.now c.read_value.result c.read_value.ensures.file c.read_value.ensures.fault
