use Rattle.std.proofs.Common.{[], arith}
use Rattle.std.proofs.lemmas.Grind.{common_steps}
use Rattle.std.proofs.lemmas.List.FromFn.{fill_by_all}
use Rattle.sc_matrix.specs.Vector.{unit_vector}
use Rattle.sc_matrix.proofs.ProductLaws.{same_matrix}
use Rattle.sc_matrix.proofs.matrix.Matrix.identity.Goals as goal

pub loop-i-preserved : goal.loop-i-preserved
loop-i-preserved g c = record {
  count = grind (arith, common_steps);
  cols = grind (arith, common_steps);
  done = λ k h. grind (arith, common_steps, c.loop-i.invariant.rest c.loop-i.i);
  rest = λ k h l. grind (arith, common_steps, c.loop-i.invariant.rest k);
}

pub returns : goal.returns
returns g c =
    let l = c.loop-i.invariant in
    let unit = unit_vector g.F.Field.zero g.F.Field.one c.args.n in
    same_matrix _ _ l.cols (fill_by_all unit c.loop-i.m.rows c.args.n [] l.count (λ k h. l.done k (omega arith)))
