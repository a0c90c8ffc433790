use Rattle.streamcode.proofs.JobLaws.{bound_memory}
use Rattle.streamcode.proofs.bound.bound.Goals as goal

pub returns-in-Err : goal.returns-in-Err
returns-in-Err g c = bound_memory c.args.channel (g.P.Port.told c.args.port.now)

pub returns-in-Err-print_certificate : goal.returns-in-Err-print_certificate
returns-in-Err-print_certificate g c = bound_memory c.args.channel (g.P.Port.told c.args.port.now)

pub returns-then-is_err : goal.returns-then-is_err
returns-then-is_err g c = bound_memory c.args.channel (g.P.Port.told c.args.port.now)
