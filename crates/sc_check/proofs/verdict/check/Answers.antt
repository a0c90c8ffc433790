use Rattle.std.proofs.Common.{refl, sym}
use Rattle.sc_check.proofs.VerdictSteps.{meets-from_all, verdicts_tell}
use Rattle.sc_check.proofs.AnswerLaws.{answer-meets}
use Rattle.sc_check.proofs.verdict.check.Goals as goal

pub returns-in-None-clause-verdict : goal.returns-in-None-clause-verdict
returns-in-None-clause-verdict g c =
    let all = rw c.in-None.is at c.in_ok-first_failing.ensures in
    meets-from_all c.args.file.now.code c.args.classes.now c.args.file.now.channel c.keep_limits.ensures.code c.keep_limits.ensures.channel c.requires.channel all

pub returns-in-None-clause-meets : goal.returns-in-None-clause-meets
returns-in-None-clause-meets g c = (λ _. returns-in-None-clause-verdict g c, λ _. refl)

pub returns-in-Some-clause-verdict : goal.returns-in-Some-clause-verdict
returns-in-Some-clause-verdict g c = rw c.requires.channel at c.refutation.ensures.verdict

pub returns-in-Some-clause-meets : goal.returns-in-Some-clause-meets
returns-in-Some-clause-meets g c = verdicts_tell c.args.file.now.code c.args.file.now.channel c.refutation.result (returns-in-Some-clause-verdict g c)

pub returns-in-None-clause-answer : goal.returns-in-None-clause-answer
returns-in-None-clause-answer g c =
    let all = rw c.in-None.is at c.in_ok-first_failing.ensures in
    sym (answer-meets c.args.file.now.code c.args.classes.now c.args.file.now.channel c.keep_limits.ensures.channel c.requires.channel all)

pub returns-in-Some-clause-answer : goal.returns-in-Some-clause-answer
returns-in-Some-clause-answer g c = rw c.requires.channel at c.refutation.ensures.answer
