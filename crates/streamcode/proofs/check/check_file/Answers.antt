use Rattle.std.proofs.Common.{inl, inr}
use Rattle.std.proofs.lemmas.Bool.{cases_lt}
use Rattle.sc_channel.specs.Classes.{class_count}
use Rattle.streamcode.proofs.JobLaws.{check_many, check_memory}
use Rattle.streamcode.proofs.check.check_file.Goals as goal

pub returns-in-Err-clause-ends : goal.returns-in-Err-clause-ends
returns-in-Err-clause-ends g c =
    let refused = c.in-Err.ensures.refused in
    let accepted = c.in-Err.ensures.accepted in
    elim (cases_lt 1000000 (class_count c.args.file.now.channel)) [
      | inl many ↦ check_many c.args.file.now (g.P.Port.told c.args.port.now) c.in-Err.field-0.count many refused
      | inr few ↦ (let ok = accepted.1 few in absurd (cc))
    ]

pub returns-in-Err-check-clause-ends : goal.returns-in-Err-check-clause-ends
returns-in-Err-check-clause-ends g c = check_memory c.args.file.now (g.P.Port.told c.args.port.now)

pub returns-in-Err-verdict_lines-clause-ends : goal.returns-in-Err-verdict_lines-clause-ends
returns-in-Err-verdict_lines-clause-ends g c = check_memory c.args.file.now (g.P.Port.told c.args.port.now)
