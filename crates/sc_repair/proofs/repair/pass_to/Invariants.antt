use Rattle.std.proofs.Common.{◌≡◌, ◌+◌, ◌≤◌, ℕ, List}
use Rattle.sc_slots.specs.Taken.{Taken}
use Rattle.sc_repair.specs.RepairSteps.{IsReady, GetsReady}
use Rattle.sc_repair.proofs.repair.pass_to.Given as goal

-- the slots below this one are passed, and what can be put out then was
abbrev pub invariant-loop-slot : goal.invariant-loop-slot
invariant-loop-slot g l =
    let told = g.P.Port.told in
    record {
      passed : l.repairer.passed ≡ l._slot;
      same : l.repairer ≡ record l.fn.repairer { front = l.repairer.front; passed = l.repairer.passed; next = l.repairer.next; known = l.repairer.known; block = l.repairer.block };
      near : l.repairer.passed ≤ l.repairer.next + l.repairer.deadline;
      few : l.missed ≤ l.repairer.next;
      gives : (taken : List (Taken ℕ)) (text : List ℕ) → IsReady l.fn.repairer taken l.fn.missed text
          → GetsReady (told l.fn.port) (told l.port) l.fn.pending l.pending l.repairer taken l.missed text;
    }
