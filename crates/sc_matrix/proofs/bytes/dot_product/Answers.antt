use Rattle.std.proofs.Common.{◌≡◌, ◌+◌, [], ◌∷◌, ◌++◌, take, bit_xor, arith}
use Rattle.std.specs.Int.Bits.{xor_assoc}
use Rattle.std.proofs.lemmas.List.Elements.{All-same, All-push}
use Rattle.std.proofs.lemmas.Grind.{take_at_read}
use Rattle.sc_matrix.proofs.VectorLaws.{dot_next}
use Rattle.sc_matrix.proofs.NumberLaws.{dot_summed}
use Rattle.sc_matrix.proofs.bytes.dot_product.Goals as goal

pub loop-j-preserved : goal.loop-j-preserved
loop-j-preserved g c =
    let v = c.args.v.now in
    let next = dot_next 0 bit_xor g.F.Field.act v c.args.numbers.now c.loop-j.j c.index-v-j.result 0 in
    let more : take (c.loop-j.j + 1) v ≡ take c.loop-j.j v ++ c.index-v-j.result ∷ [] = grind (arith, take_at_read) in
    record {
      elements = All-same g.F.Field.IsElement _ _ more (All-push g.F.Field.IsElement (take c.loop-j.j v) c.index-v-j.result c.loop-j.invariant.elements c.known.ensures);
      value = grind (arith, xor_assoc, next);
    }

pub element_of-requires : goal.element_of-requires
element_of-requires g c = (dot_summed g.met.F.Field.field g.met.F.Field.action g.met.F.Field.numbered g.met.F.Field.by_number c.args.v.now c.args.numbers.now c.loop-j.j c.loop-j.total (omega arith) c.requires.width c.requires.numbers c.loop-j.invariant.elements c.loop-j.invariant.value).0

pub returns-clause-value : goal.returns-clause-value
returns-clause-value g c =
    grind (arith, (dot_summed g.met.F.Field.field g.met.F.Field.action g.met.F.Field.numbered g.met.F.Field.by_number c.args.v.now c.args.numbers.now c.loop-j.j c.loop-j.total (omega arith) c.requires.width c.requires.numbers c.loop-j.invariant.elements c.loop-j.invariant.value).1)
