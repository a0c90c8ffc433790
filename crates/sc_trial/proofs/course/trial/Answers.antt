use Rattle.std.proofs.Common.{arith}
use Rattle.sc_trial.specs.GeneratedLaws.{IsWithinLimits}
use Rattle.sc_trial.proofs.TrialSteps.{gives-is}
use Rattle.sc_trial.proofs.course.trial.Goals as goal

pub returns-in-Ok-clause-recovered : goal.returns-in-Ok-clause-recovered
returns-in-Ok-clause-recovered c =
    let within : IsWithinLimits c.args.count c.args.size = record { most = omega (arith, c.requires.count); least = c.requires.least; greatest = c.requires.greatest } in
    gives-is c.args.file.now c.args.seed c.args.count c.args.size within _ c.in-Ok.ensures
