use Rattle.std.proofs.Common.{ap, sym, ◌∙◌}
use Rattle.sc_check.specs.Answer.{told_by}
use Rattle.sc_optimal.proofs.DesignSteps.{tried_good, tried_bad, fails_meets}
use Rattle.sc_optimal.proofs.design.good_candidate.Goals as goal

pub returns-in-Meets-clause-tried : goal.returns-in-Meets-clause-tried
returns-in-Meets-clause-tried g c =
    tried_good c.args.kind c.args.channel.now c.args.c c.in_ok-code.code c.in_ok-code.ensures.code
    (c.in_ok-check.ensures.meets.0 c.in-Meets.is)
    (sym (ap told_by c.in-Meets.is) ∙ c.in_ok-check.ensures.answer)

pub returns-in-Fails-clause-tried : goal.returns-in-Fails-clause-tried
returns-in-Fails-clause-tried g c =
    tried_bad c.args.kind c.args.channel.now c.args.c c.in_ok-code.code _ c.in_ok-code.ensures.code
    (λ meets. fails_meets _ _ _ (sym c.in-Fails.is ∙ c.in_ok-check.ensures.meets.1 meets))
    (sym (ap told_by c.in-Fails.is) ∙ c.in_ok-check.ensures.answer)
