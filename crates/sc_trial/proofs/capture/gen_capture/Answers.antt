use Rattle.std.proofs.Common.{◌++◌, refl, ap, ◌∙◌}
use Rattle.sc_outside.proofs.EndsLaws.{Ends-no_memory}
use Rattle.sc_trial.specs.Generated.{standard_preamble, generating}
use Rattle.sc_trial.proofs.RecordSteps.{records_failed, last_failed, all_given}
use Rattle.sc_trial.proofs.capture.gen_capture.Goals as goal

pub returns-in_default-clause-ends : goal.returns-in_default-clause-ends
returns-in_default-clause-ends g c = Ends-no_memory (generating c.args.seed c.args.count c.args.size) (g.P.Port.told c.args.port.now) refl

pub returns-in-Err-clause-ends : goal.returns-in-Err-clause-ends
returns-in-Err-clause-ends g c =
    records_failed c.args.seed c.args.count c.args.size _ _ _ _ c.new-words.ensures (c.push.ensures ∙ ap (λ l. l ++ standard_preamble) c.in-Ok.ensures) c.in-Err.ensures.err

pub returns-in-Ok-flush-clause-ends : goal.returns-in-Ok-flush-clause-ends
returns-in-Ok-flush-clause-ends g c =
    all_given c.args.seed c.args.count c.args.size _ _ _ _ _ _ c.new-words.ensures (c.push.ensures ∙ ap (λ l. l ++ standard_preamble) c.in-Ok.ensures) c.in-Ok-put_records.ensures.ok
    c.in-Ok-flush.ensures.1

pub returns-clause-ends : goal.returns-clause-ends
returns-clause-ends g c =
    last_failed c.args.seed c.args.count c.args.size _ _ _ _ _ _ _ c.new-words.ensures (c.push.ensures ∙ ap (λ l. l ++ standard_preamble) c.in-Ok.ensures) c.in-Ok-put_records.ensures.ok
    c.in-Err-flush.ensures
