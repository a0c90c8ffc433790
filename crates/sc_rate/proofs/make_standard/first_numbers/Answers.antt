use Rattle.std.proofs.Common.{ℕ, List, [], ◌∷◌, ◌++◌, sym, ap, ◌∙◌}
use Rattle.sc_rate.proofs.StandardSteps.{range_more}
use Rattle.sc_rate.proofs.make_standard.first_numbers.Goals as goal

pub loop-number-preserved : goal.loop-number-preserved
loop-number-preserved c =
    let number = c.loop-number.number in
    c.in_ok-push.ensures.items ∙ ap (λ (xs : List ℕ). xs ++ number ∷ []) c.loop-number.invariant ∙ sym (range_more number)
