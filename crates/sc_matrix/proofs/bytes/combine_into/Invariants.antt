use Rattle.std.proofs.Common.{◌≡◌, length, map, drop, bit_xor}
use Rattle.sc_matrix.specs.Vector.{add_vectors, combination}
use Rattle.sc_matrix.specs.Rows.{table}
use Rattle.sc_matrix.proofs.bytes.combine_into.Given as goal

abbrev pub invariant-loop-k : goal.invariant-loop-k
invariant-loop-k g l =
    add_vectors bit_xor l.fn.xs (combination 0 bit_xor g.F.Field.act (length l.fn.xs) (map g.F.Field.element l.numbers) (table l.other).rows)
    ≡ add_vectors bit_xor l.xs (combination 0 bit_xor g.F.Field.act (length l.fn.xs) (drop l.k (map g.F.Field.element l.numbers)) (drop l.k (table l.other).rows))
