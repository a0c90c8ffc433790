use Rattle.sc_echelon.proofs.Touched.{IsTouched-trimmed}
use Rattle.sc_echelon.proofs.equation.Equation.trim.Goals as goal

pub invariant_of-self : goal.invariant_of-self
invariant_of-self g c = record {
  all = c.self.invariant.all;
  touched = IsTouched-trimmed c.self.inside.numbers c.as_slice-numbers.result.now c.self.inside.from c.self.inside.end c.pass_zeros-from.result c.end_of_others-end.result c.as_slice-numbers.ensures c.self.invariant.touched
      c.end_of_others-end.ensures.order c.end_of_others-end.ensures.within c.pass_zeros-from.ensures.zeros c.end_of_others-end.ensures.zeros;
}
