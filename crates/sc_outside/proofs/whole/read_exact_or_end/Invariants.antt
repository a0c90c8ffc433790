use Rattle.std.proofs.Common.{length, take, ◌≡◌, ◌-◌, ◌≤◌}
use Rattle.sc_outside.specs.Port.{Takes}
use Rattle.sc_outside.proofs.whole.read_exact_or_end.Given as goal

-- the buffer begins with what was taken so far, and no read failed
abbrev pub invariant-loop-filled : goal.invariant-loop-filled
invariant-loop-filled g l =
    let told = g.P.Port.told in
    record {
      bound : l.filled ≤ length l.buf;
      takes : Takes (told l.fn.port) (told l.port) (take l.filled l.buf);
      read_faults : (told l.port).read_faults ≡ (told l.fn.port).read_faults;
    }

abbrev pub decreases-loop-filled : goal.decreases-loop-filled
decreases-loop-filled g l = length l.initial.buf - l.filled
