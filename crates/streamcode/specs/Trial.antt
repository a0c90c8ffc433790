-- What `trial` prints. The line is of this project.
use Rattle.std.specs.Prelude.{ℕ, List, [], ◌∷◌, ◌++◌, codes, decimal}
use Rattle.sc_trial.specs.declared.outcome.Trial.{Trial}

-- all slots, those that were lost, the packets that came back equal, and those that are missed
abbrev pub trial_line : Trial → List ℕ
trial_line tried =
    codes "slots " ++ decimal tried.slots ++ codes " lost " ++ decimal tried.lost ++ codes " equal " ++ decimal tried.equal
    ++ codes " missed " ++ decimal tried.missed ++ 10 ∷ []
