use Rattle.streamcode.proofs.JobLaws.{design_found_memory}
use Rattle.streamcode.proofs.design.give_found.Goals as goal

pub returns-then-is_err : goal.returns-then-is_err
returns-then-is_err g c = design_found_memory c.args.channel c.args.found (g.P.Port.told c.args.port.now)
