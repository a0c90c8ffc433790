use Rattle.std.proofs.Common.{◌≡◌, ◌≤◌, [], take}
use Rattle.sc_channel.specs.Flags.{set_count}
use Rattle.sc_rtpdump.specs.Thin.{Reached}
use Rattle.sc_rtpdump.proofs.thin.take_rest.Given as goal

-- so many records were taken, and those whose flag isn't set were given or wait
abbrev pub invariant-loop-i : goal.invariant-loop-i
invariant-loop-i g l =
    let told = g.P.Port.told in
    record {
      reached : Reached l.flags (told l.fn.port) (told l.port) l.i [] l.pending;
      count : l.lost ≡ set_count (take l.i l.flags);
      fewer : l.lost ≤ l.i;
    }
