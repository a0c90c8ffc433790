use Rattle.std.proofs.Common.{[], length, map, replicate, bit_xor, arith}
use Rattle.std.proofs.lemmas.List.{length-map, get_or-map, drop_all}
use Rattle.sc_matrix.specs.Vector.{add_vectors, scale_vector}
use Rattle.sc_matrix.specs.Rows.{table}
use Rattle.sc_matrix.proofs.VectorLaws.{dot_next}
use Rattle.sc_matrix.proofs.LayoutLaws.{length-cut}
use Rattle.sc_matrix.proofs.Modules.{vectors_none-bytes, vectors_assoc-bytes}
use Rattle.sc_matrix.proofs.ByteSteps.{scaled_sum_is}
use Rattle.sc_matrix.proofs.bytes.combine_into.Goals as goal

pub loop-k-preserved : goal.loop-k-preserved
loop-k-preserved g c =
    let cs = map g.F.Field.element c.args.numbers.now in
    let next = dot_next (replicate (length c.args.xs.now) 0) (add_vectors bit_xor) (scale_vector g.F.Field.act) cs (table c.args.other.now).rows c.loop-k.k g.F.Field.zero [] in
    grind (arith, length-map, length-cut, get_or-map, scaled_sum_is, vectors_assoc-bytes, next)

pub returns : goal.returns
returns g c = grind (arith, length-map, length-cut, drop_all, vectors_none-bytes)
