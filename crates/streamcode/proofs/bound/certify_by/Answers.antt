use Rattle.sc_codefile.specs.Reading.{certificate_reading}
use Rattle.streamcode.specs.Jobs.{certify_job}
use Rattle.streamcode.specs.Plans.{owes}
use Rattle.streamcode.specs.declared.end.Role.TheVariants.{Certificate}
use Rattle.streamcode.proofs.FileLaws.{came-not}
use Rattle.streamcode.proofs.bound.certify_by.Goals as goal

pub returns-in-Err : goal.returns-in-Err
returns-in-Err g c =
    came-not Certificate certificate_reading g.P.Port.told (λ certificate. owes (certify_job c.args.file.now certificate)) _ _ c.args.cert.now c.args.port.now c.in-Err.end c.in-Err.ensures
