use Rattle.std.proofs.Common.{sym, subst}
use Rattle.sc_outside.specs.Ends.{Ends}
use Rattle.streamcode.specs.declared.end.End.TheVariants.{PacketTooWide}
use Rattle.streamcode.specs.Jobs.{trial_job}
use Rattle.streamcode.proofs.JobLaws.{trial_wide, trial_memory}
use Rattle.streamcode.proofs.trial.try_file.Goals as goal

pub returns-in-Err-TooWide-clause-ends : goal.returns-in-Err-TooWide-clause-ends
returns-in-Err-TooWide-clause-ends g c =
    let told = g.P.Port.told c.args.port.now in
    subst (λ n. Ends (trial_job c.args.file.now c.args.seed c.args.count c.args.size) told told (PacketTooWide n)) (sym c.in-Err-TooWide.bytes-is)
    (trial_wide c.args.file.now c.args.seed c.args.count c.args.size c.in-Err-TooWide.field-0 c.in-Err-TooWide.bytes told c.in-Err-TooWide.ensures.gives c.in-Err-TooWide.field-0-is)

pub returns-in-Err-Memory-clause-ends : goal.returns-in-Err-Memory-clause-ends
returns-in-Err-Memory-clause-ends g c = trial_memory c.args.file.now c.args.seed c.args.count c.args.size (g.P.Port.told c.args.port.now)

pub returns-in-Err-clause-ends : goal.returns-in-Err-clause-ends
returns-in-Err-clause-ends g c = trial_memory c.args.file.now c.args.seed c.args.count c.args.size (g.P.Port.told c.args.port.now)
