use Rattle.std.proofs.Common.{◌≡◌, All, take, drop, bit_xor}
use Rattle.sc_matrix.specs.Vector.{dot}
use Rattle.sc_matrix.proofs.bytes.dot_product.Given as goal

abbrev pub invariant-loop-j : goal.invariant-loop-j
invariant-loop-j g l =
    record {
      elements : All g.F.Field.IsElement (take l.j l.v);
      value : dot 0 bit_xor g.F.Field.act l.v l.numbers ≡ bit_xor l.total (dot 0 bit_xor g.F.Field.act (drop l.j l.v) (drop l.j l.numbers));
    }
