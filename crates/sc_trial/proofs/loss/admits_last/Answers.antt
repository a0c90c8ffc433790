use Rattle.std.proofs.Common.{◌≡◌, ◌-◌, is_none, List, Bool, length, take, drop, ap, ◌∙◌, arith}
use Rattle.std.proofs.lemmas.List.{length-drop}
use Rattle.std.proofs.Math.Seq.{take-length}
use Rattle.sc_trial.specs.Loss.{is_admissible}
use Rattle.sc_trial.proofs.LossSteps.{is_admissible-from_last, none_answer}
use Rattle.sc_trial.proofs.loss.admits_last.Goals as goal

pub returns : goal.returns
returns c =
    let flags = c.args.flags.now in
    let channel = c.args.channel.now in
    let last = drop c.saturating_sub-start.result flags in
    let start : c.saturating_sub-start.result ≡ length flags - channel.w = omega (arith, c.saturating_sub-start.ensures, c.w.ensures.number) in
    let long : length flags - c.saturating_sub-start.result ≡ length last = omega (arith, length-drop c.saturating_sub-start.result flags) in
    none_answer c.first_bad_window.result c.is_none.result c.is_none.ensures
    ∙ ap (λ x. is_none x) c.first_bad_window.ensures.value
    ∙ ap (λ (l : List Bool). is_admissible channel l) (ap (λ n. take n last) long ∙ take-length last)
    ∙ ap (λ n. is_admissible channel (drop n flags)) start
    ∙ is_admissible-from_last channel flags (omega (arith, c.w.ensures.limits.ordered.deadline_in_window)) c.requires.before
