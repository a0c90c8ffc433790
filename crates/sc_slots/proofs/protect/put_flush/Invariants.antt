use Rattle.std.proofs.Common.{◌≡◌, List}
use Rattle.sc_rtpdump.specs.Record.{Record}
use Rattle.sc_slots.specs.Protected.{Protection}
use Rattle.sc_slots.specs.ProtectSteps.{Knows, IsOf}
use Rattle.sc_slots.proofs.FlushSteps.{Flushed}
use Rattle.sc_slots.proofs.protect.put_flush.Given as goal

-- so many slots were put behind what waited
abbrev pub invariant-loop-j : goal.invariant-loop-j
invariant-loop-j g l =
    let told = g.P.Port.told in
    record {
      code : l.maker.code ≡ l.fn.maker.code;
      width : l.maker.width ≡ l.fn.maker.width;
      flushed : (p : Protection) (records : List Record) → IsOf p l.fn.maker → p.deadline ≡ l.file.channel.t → Knows p records l.taken l.fn.maker
          → Flushed p (told l.fn.port) (told l.port) records l.j l.maker l.fn.pending l.pending;
    }
