use Rattle.sc_codefile.specs.Reading.{loss_reading}
use Rattle.streamcode.specs.Jobs.{lose_job}
use Rattle.streamcode.specs.Plans.{owes}
use Rattle.streamcode.specs.declared.end.Role.TheVariants.{Loss}
use Rattle.streamcode.proofs.FileLaws.{came-not}
use Rattle.streamcode.proofs.lose.lose_by.Goals as goal

pub returns-in-Err : goal.returns-in-Err
returns-in-Err g c =
    came-not Loss loss_reading g.P.Port.told (λ flags. owes (lose_job c.args.file.now.channel flags)) _ _ c.args.loss.now c.args.port.now c.in-Err.end c.in-Err.ensures.came
