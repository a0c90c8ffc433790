use Rattle.streamcode.proofs.JobLaws.{giving_given}
use Rattle.streamcode.proofs.give.give.Goals as goal

pub returns-in-Ok : goal.returns-in-Ok
returns-in-Ok g c = giving_given c.args.end c.args.text.now _ _ c.in-Ok.ensures.ok
