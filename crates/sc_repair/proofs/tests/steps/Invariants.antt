use Rattle.std.proofs.Common.{◌≡◌, ◌+◌, ◌≤◌, false}
use Rattle.sc_repair.proofs.tests.steps.Given as goal

abbrev pub invariant-loop-came : goal.invariant-loop-came
invariant-loop-came l =
    (l.repairer.k ≡ 1) × (l.repairer.r ≡ 1) × (l.repairer.memory ≡ 2) × (l.repairer.m ≡ 1) × (l.repairer.finished ≡ false)
    × (l.repairer.passed ≤ l.repairer.next + l.repairer.deadline)
