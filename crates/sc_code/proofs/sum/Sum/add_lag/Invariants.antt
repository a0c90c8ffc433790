use Rattle.sc_code.specs.Sum.{HasTerms}
use Rattle.sc_code.proofs.sum.Sum.add_lag.Given as goal

abbrev pub invariant-loop-i : goal.invariant-loop-i
invariant-loop-i g l = HasTerms g.F.Field.zero g.F.Field.act l.code l.width l.j l.lag l.i l.self
