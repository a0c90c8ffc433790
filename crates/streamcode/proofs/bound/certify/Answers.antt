use Rattle.sc_codefile.specs.Reading.{code_reading}
use Rattle.streamcode.specs.Files.{certificate_plan}
use Rattle.streamcode.specs.Jobs.{certify_job}
use Rattle.streamcode.specs.Plans.{owes}
use Rattle.streamcode.specs.declared.end.Role.TheVariants.{Code}
use Rattle.streamcode.proofs.FileLaws.{came-not}
use Rattle.streamcode.proofs.bound.certify.Goals as goal

pub returns-in-Err : goal.returns-in-Err
returns-in-Err g c =
    came-not Code code_reading g.P.Port.told (λ file. certificate_plan c.args.cert.now (λ certificate. owes (certify_job file certificate))) _ _ c.args.code.now c.args.port.now c.in-Err.end c.in-Err.ensures
