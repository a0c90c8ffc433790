use Rattle.streamcode.specs.Jobs.{trial_job}
use Rattle.streamcode.specs.Plans.{owes}
use Rattle.sc_codefile.specs.Reading.{code_reading}
use Rattle.streamcode.specs.declared.end.Role.TheVariants.{Code}
use Rattle.streamcode.proofs.FileLaws.{came-not}
use Rattle.streamcode.proofs.trial.try_code.Goals as goal

pub returns-in-Err : goal.returns-in-Err
returns-in-Err g c =
    came-not Code code_reading g.P.Port.told (λ file. owes (trial_job file c.args.seed c.args.count c.args.size)) _ _ c.args.name.now c.args.port.now c.in-Err.end c.in-Err.ensures
