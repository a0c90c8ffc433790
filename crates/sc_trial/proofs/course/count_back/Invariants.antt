use Rattle.std.proofs.Common.{◌≡◌, ◌+◌, ◌*◌, ◌≤◌, ◌-◌, drop, length}
use Rattle.sc_matrix.specs.Layout.{cut}
use Rattle.sc_trial.specs.TrialSteps.{back_count}
use Rattle.sc_trial.proofs.course.count_back.Given as goal

-- those that were found, with those that the rest of the walk finds, are all
abbrev pub invariant-loop : goal.invariant-loop
invariant-loop l =
    (l.equal + back_count (cut (l.count - l.counter) l.len l.left) l.rest ≡ back_count (cut l.count l.len (drop 44 l.capture)) (drop 44 l.back))
    × (l.equal ≤ l.counter) × ((l.count - l.counter) * l.len ≤ length l.left)
