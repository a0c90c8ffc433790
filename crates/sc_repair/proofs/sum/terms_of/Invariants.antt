use Rattle.sc_repair.specs.Sum.{AreTerms}
use Rattle.sc_repair.proofs.sum.terms_of.Given as goal

abbrev pub invariant-loop-c : goal.invariant-loop-c
invariant-loop-c l = AreTerms (λ t. t.multiplier.coefficient) (λ t. t.at) l.width l.row l.c l.terms.items
