use Rattle.sc_codefile.specs.Reading.{code_reading}
use Rattle.streamcode.specs.Files.{loss_plan}
use Rattle.streamcode.specs.Jobs.{lose_job}
use Rattle.streamcode.specs.Plans.{owes}
use Rattle.streamcode.specs.declared.end.Role.TheVariants.{Code}
use Rattle.streamcode.proofs.FileLaws.{came-not}
use Rattle.streamcode.proofs.lose.lose.Goals as goal

pub returns-in-Err : goal.returns-in-Err
returns-in-Err g c =
    came-not Code code_reading g.P.Port.told (λ file. loss_plan c.args.loss.now (λ flags. owes (lose_job file.channel flags))) _ _ c.args.code.now c.args.port.now c.in-Err.end c.in-Err.ensures
