use Rattle.std.specs.Io.KnownBytes.{Keeps}
use Rattle.sc_outside.proofs.stream.write_some.Given as goal

-- the calls that were interrupted moved nothing
abbrev pub invariant-loop : goal.invariant-loop
invariant-loop g l = Keeps (g.W.Write.contents l.fn.output) (g.W.Write.contents l.output)
