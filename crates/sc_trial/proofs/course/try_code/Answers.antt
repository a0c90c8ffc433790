use Rattle.std.proofs.Common.{◌≡◌, ◌+◌, ◌*◌, ◌≤◌, length, ap, ◌∙◌, arith}
use Rattle.sc_trial.specs.Generated.{generated}
use Rattle.sc_trial.specs.GeneratedLaws.{IsWithinLimits}
use Rattle.sc_trial.proofs.TrialSteps.{input-length, went, back-length, trial-gives, sized}
use Rattle.sc_trial.proofs.course.try_code.Goals as goal

pub count_back-equal-requires-clause-room : goal.count_back-equal-requires-clause-room
count_back-equal-requires-clause-room c =
    let within : IsWithinLimits c.args.count c.args.size = record { most = omega (arith, c.requires.count); least = c.requires.least; greatest = c.requires.greatest } in
    let same : length c.as_slice-2.result.now ≡ length (generated c.args.seed c.args.count c.args.size) =
    ap length (c.as_slice-2.ensures.value ∙ c.in_ok-original.ensures.items_if_clones_equal (λ x y e. e) ∙ c.deref.ensures.value ∙ c.in_ok-capture.ensures) in
    omega (arith, same, input-length c.args.file.now c.args.seed c.args.count c.args.size within, ap (λ n. c.args.count * (8 + n)) c.from-len.ensures)

pub count_back-equal-requires-clause-preamble : goal.count_back-equal-requires-clause-preamble
count_back-equal-requires-clause-preamble c =
    let within : IsWithinLimits c.args.count c.args.size = record { most = omega (arith, c.requires.count); least = c.requires.least; greatest = c.requires.greatest } in
    let original : c.in_ok-original.original.items ≡ generated c.args.seed c.args.count c.args.size =
    c.in_ok-original.ensures.items_if_clones_equal (λ x y e. e) ∙ c.deref.ensures.value ∙ c.in_ok-capture.ensures in
    let course = went c.args.file.now c.args.seed c.args.count c.args.size within _ _ _ _ c.in_ok-capture.ensures (c.as_slice.ensures.value ∙ original) c.t.ensures.number
    c.known.ensures.channel c.known.ensures.code c.known.ensures.bytes c.in_ok-flags.ensures.flags c.in_ok-flags.ensures.count c.in_ok-flags.ensures.admissible _ _ _ _
    c.in_ok-sent.ensures c.in_ok-arrived.ensures c.in_ok-back.ensures in
    omega (arith, back-length c.args.file.now c.args.seed c.args.count c.args.size within course.0 _ _ _ _ course.1, ap length c.as_slice-3.ensures.value)

pub returns : goal.returns
returns c =
    let within : IsWithinLimits c.args.count c.args.size = record { most = omega (arith, c.requires.count); least = c.requires.least; greatest = c.requires.greatest } in
    let original : c.in_ok-original.original.items ≡ generated c.args.seed c.args.count c.args.size =
    c.in_ok-original.ensures.items_if_clones_equal (λ x y e. e) ∙ c.deref.ensures.value ∙ c.in_ok-capture.ensures in
    let course = went c.args.file.now c.args.seed c.args.count c.args.size within _ _ _ _ c.in_ok-capture.ensures (c.as_slice.ensures.value ∙ original) c.t.ensures.number
    c.known.ensures.channel c.known.ensures.code c.known.ensures.bytes c.in_ok-flags.ensures.flags c.in_ok-flags.ensures.count c.in_ok-flags.ensures.admissible _ _ _ _
    c.in_ok-sent.ensures c.in_ok-arrived.ensures c.in_ok-back.ensures in
    trial-gives c.args.file.now c.args.seed c.args.count c.args.size within course.0 c.requires.narrow _ _ _ _ course.1 _
    (sized c.args.file.now c.args.seed c.args.count c.args.size within _ _ _ _ _ c.from-len.ensures (c.as_slice-2.ensures.value ∙ original) c.as_slice-3.ensures.value c.count_back-equal.ensures.value)
