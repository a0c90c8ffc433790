use Rattle.sc_check.proofs.AnswerLaws.{answer-fails}
use Rattle.std.proofs.Common.{◌≡◌, ℕ, List, All, length, ap, ◌∙◌}
use Rattle.sc_check.proofs.VerdictSteps.{not_first_failing, least_refutation, told_none, told_some, told_of}
use Rattle.sc_check.proofs.verdict.refutation.Goals as goal

pub unreachable-requires : goal.unreachable-requires
unreachable-requires c =
    not_first_failing c.args.code.now c.args.classes.now c.args.index c.in_ok-loss.loss c.in_ok-loss.ensures.limits c.in_ok-loss.ensures.is_class c.in_ok-loss.ensures.class c.requires.first
    (told_none c.args.code.now c.as_slice.result.now c.in_ok-loss.loss c.in_ok-stream.field-0 c.as_slice.ensures c.in-None.is c.in_ok-stream.ensures.least)

pub returns-clause-verdict : goal.returns-clause-verdict
returns-clause-verdict c =
    let blocks : length c.in-Some.stream ≡ length c.as_slice.result.now = told_of (λ (s : List (List ℕ)). length s ≡ length c.as_slice.result.now) c.in_ok-stream.field-0 c.in-Some.stream c.in-Some.is c.in_ok-stream.ensures.blocks in
    least_refutation c.args.code.now c.args.classes.now c.args.index c.in_ok-loss.loss c.in-Some.stream c.requires.code c.in_ok-loss.ensures.limits c.in_ok-loss.ensures.is_class c.in_ok-loss.ensures.class c.requires.first
    (told_some c.args.code.now c.as_slice.result.now c.in_ok-loss.loss c.in_ok-stream.field-0 c.in-Some.stream c.as_slice.ensures c.in-Some.is c.in_ok-stream.ensures.least)
    (blocks ∙ ap length c.as_slice.ensures)
    (told_of (λ (s : List (List ℕ)). All (λ block. length block ≡ c.args.code.now.k) s) c.in_ok-stream.field-0 c.in-Some.stream c.in-Some.is c.in_ok-stream.ensures.symbols)

pub returns-clause-answer : goal.returns-clause-answer
returns-clause-answer c =
    answer-fails c.args.code.now c.args.classes.now c.args.index c.in_ok-loss.loss c.in-Some.stream c.in_ok-loss.ensures.limits c.in_ok-loss.ensures.class c.requires.first
    (told_some c.args.code.now c.as_slice.result.now c.in_ok-loss.loss c.in_ok-stream.field-0 c.in-Some.stream c.as_slice.ensures c.in-Some.is c.in_ok-stream.ensures.least)
