use Rattle.std.proofs.Common.{◌≤◌, ◌+◌, ◌*◌}
use Rattle.sc_slots.specs.Protected.{protection_of}
use Rattle.sc_slots.specs.ProtectSteps.{IsOf, Passed}
use Rattle.sc_slots.proofs.protect.take_records.Given as goal

-- so many records were taken, and what they leave is kept
abbrev pub invariant-loop-index : goal.invariant-loop-index
invariant-loop-index g l =
    let told = g.P.Port.told in
    record {
      passed : Passed (protection_of l.file l.size) (told l.fn.port) (told l.port) l.index l.state.taken l.state.maker l.state.pending;
      of : IsOf (protection_of l.file l.size) l.state.maker;
      fits : l.size + 6 ≤ l.state.maker.code.k * l.state.maker.width;
    }
