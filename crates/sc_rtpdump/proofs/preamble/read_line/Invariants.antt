use Rattle.std.proofs.Common.{take}
use Rattle.sc_outside.specs.Port.{Takes}
use Rattle.sc_rtpdump.specs.Preamble.{IsOneLine}
use Rattle.sc_rtpdump.proofs.preamble.read_line.Given as goal

-- the bytes before the place were taken, and none is a newline
abbrev pub invariant-loop-i : goal.invariant-loop-i
invariant-loop-i g l =
    let told = g.P.Port.told in
    record { takes : Takes (told l.fn.port) (told l.port) (take l.i l.bytes); one_line : IsOneLine (take l.i l.bytes) }
