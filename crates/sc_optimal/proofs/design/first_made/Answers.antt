use Rattle.std.proofs.Common.{◌<◌, inl, inr, false, refl}
use Rattle.std.proofs.lemmas.Bool.{both_ways, cases_lt}
use Rattle.sc_channel.specs.Classes.{class_count}
use Rattle.sc_optimal.proofs.DesignSteps.{answer_classes, answer_searched}
use Rattle.sc_optimal.proofs.design.first_made.Goals as goal

pub returns-in-Ok-clause-answer : goal.returns-in-Ok-clause-answer
returns-in-Ok-clause-answer g c =
    answer_searched c.args.kind c.args.channel.now c.first_of.result
    (record { candidates = c.requires; classes = c.in-Ok.ensures.accepted.0 refl })
    c.first_of.ensures

pub returns-in-Err-clause-answer : goal.returns-in-Err-clause-answer
returns-in-Err-clause-answer g c =
    let many : 1000000 < class_count c.args.channel.now = elim (cases_lt 1000000 (class_count c.args.channel.now)) [
      | inl above ↦ above
      | inr within ↦ absurd (both_ways false refl (c.in-Err.ensures.accepted.1 within))
    ] in
    answer_classes c.args.kind c.args.channel.now c.in-Err.many.count c.requires many c.in-Err.ensures.refused
