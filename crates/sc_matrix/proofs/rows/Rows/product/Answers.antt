use Rattle.std.proofs.Common.{◌≡◌, List, [], length, bit_xor, arith}
use Rattle.sc_matrix.specs.Vector.{combination}
use Rattle.sc_matrix.specs.Numbers.{elements_of}
use Rattle.sc_matrix.specs.Rows.{table}
use Rattle.sc_matrix.proofs.MatrixLaws.{map-row}
use Rattle.sc_matrix.proofs.ProductLaws.{same_matrix}
use Rattle.sc_matrix.proofs.ByteSteps.{rows_steps, sum_begins, mapped_all}
use Rattle.sc_matrix.proofs.rows.Rows.product.Goals as goal

pub loop-i-preserved : goal.loop-i-preserved
loop-i-preserved g c = record {
  count = grind (arith, rows_steps);
  width = grind (arith, rows_steps);
  done = λ k h. grind (arith, sum_begins, rows_steps, c.loop-i.invariant.rest c.loop-i.i);
  rest = λ k h l. grind (arith, rows_steps, c.loop-i.invariant.rest k);
}

pub returns : goal.returns
returns g c =
    let out = c.loop-i.out in
    let rows = (elements_of g.F.Field.element c.args.a.now).rows in
    let f = λ (r : List g.row.F.Denot). combination 0 bit_xor g.F.Field.act c.args.b.now.width r (table c.args.b.now).rows in
    let count : length (table out).rows ≡ length rows = grind (arith, rows_steps) in
    let n : length rows ≡ c.args.a.now.count = grind (arith, rows_steps) in
    same_matrix _ _ c.loop-i.invariant.width (mapped_all f rows (table out).rows [] [] count (λ k h. grind (arith, map-row, c.loop-i.invariant.done k)))
