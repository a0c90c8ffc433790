use Rattle.std.proofs.Common.{◌≡◌, ◌<◌, ◌≤◌, ℕ, List, length, take}
use Rattle.sc_slots.specs.Taken.{Taken}
use Rattle.sc_repair.specs.Stands.{Stands}
use Rattle.sc_repair.specs.Steps.{Done, PutsTo, end_of, values_by}
use Rattle.sc_repair.proofs.put.put_all.Given as goal

-- so many values were put out, at least one a turn
abbrev pub invariant-loop-turn : goal.invariant-loop-turn
invariant-loop-turn g l =
    let told = g.P.Port.told in
    record {
      few : l.missed ≤ l.repairer.next;
      same : l.repairer ≡ record l.fn.repairer { next = l.repairer.next; block = l.repairer.block };
      turns : l._turn ≤ l.repairer.next;
      limit : 0 < l._turn → l.repairer.next ≤ 4000000;
      stands : (taken : List (Taken ℕ)) → Stands l.fn.repairer taken → Stands l.repairer taken;
      gives : (taken : List (Taken ℕ)) (text : List ℕ) → Stands l.fn.repairer taken → l.fn.repairer.next ≤ length (values_by l.fn.repairer taken)
          → Done (take l.fn.repairer.next (values_by l.fn.repairer taken)) (end_of l.fn.repairer taken) l.fn.missed text
          → PutsTo (values_by l.fn.repairer taken) (end_of l.fn.repairer taken) l.repairer.next (told l.fn.port) (told l.port) l.fn.pending l.pending l.missed text;
    }
