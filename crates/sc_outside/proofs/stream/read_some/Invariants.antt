use Rattle.std.specs.Io.KnownBytes.{Keeps}
use Rattle.sc_outside.proofs.stream.read_some.Given as goal

-- the calls that were interrupted moved nothing
abbrev pub invariant-loop : goal.invariant-loop
invariant-loop g l = Keeps (g.R.Read.remaining l.fn.input) (g.R.Read.remaining l.input)
