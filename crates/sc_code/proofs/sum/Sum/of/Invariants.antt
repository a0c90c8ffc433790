use Rattle.sc_code.specs.Sum.{HasTerms}
use Rattle.sc_code.proofs.sum.Sum.of.Given as goal

abbrev pub invariant-loop-lag : goal.invariant-loop-lag
invariant-loop-lag g l = HasTerms g.F.Field.zero g.F.Field.act l.code l.width l.j l.lag 0 l.sum
