use Rattle.std.proofs.Common.{Some, None, sym, arith}
use Rattle.std.proofs.lemmas.Bool.{both_ways}
use Rattle.sc_rate.proofs.ResidueSteps.{bad_residue-is}
use Rattle.sc_rate.proofs.residue.first_bad_residue.Goals as goal

pub returns-then-not-admits_stretch-clause-answer :
    goal.returns-then-not-admits_stretch-clause-answer
returns-then-not-admits_stretch-clause-answer c =
    record {
      in_period = omega (arith, c.loop-residue-test.true, c.period-period.ensures.number);
      bad = λ ok. absurd (both_ways _ c.if-not-admits_stretch.true (c.admits_stretch.ensures.1 ok));
      earlier_admissible = c.loop-residue.invariant;
    }

pub returns-clause-answer : goal.returns-clause-answer
returns-clause-answer c =
    record { each = λ residue below. c.loop-residue.invariant residue (omega (arith, c.loop-residue-test.false, c.period-period.ensures.number)) }

pub returns-then-not-admits_stretch-clause-value :
    goal.returns-then-not-admits_stretch-clause-value
returns-then-not-admits_stretch-clause-value c =
    sym (bad_residue-is c.args.channel.now c.args.cert.now (Some _) (returns-then-not-admits_stretch-clause-answer c))

pub returns-clause-value : goal.returns-clause-value
returns-clause-value c = sym (bad_residue-is c.args.channel.now c.args.cert.now None (returns-clause-answer c))
