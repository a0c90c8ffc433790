use Rattle.std.proofs.Common.{◌≡◌, ◌+◌, ◌*◌, ◌<◌, ◌≤◌, List, length, get_or, set, refl, ap, ◌∙◌, arith}
use Rattle.std.proofs.lemmas.List.{set-get_or, get_or_default}
use Rattle.sc_matrix.proofs.LayoutLaws.{row_within}
use Rattle.sc_code.specs.Ring.{place_of}
use Rattle.sc_code.specs.Sum.{Sum, sum_of}
use Rattle.sc_code.proofs.EncoderSteps.{rows_more, length-part}
use Rattle.sc_code.proofs.encoder.write_parity.Goals as goal

pub write-requires-clause-paired : goal.write-requires-clause-paired
write-requires-clause-paired g c =
    let j = c.loop-j.j in
    let lt : j < length c.args.sums.now = grind arith in
    rw c.loop-j.invariant.0 (c.requires.paired j c.index-sums-j.result lt)

pub write-requires-clause-within : goal.write-requires-clause-within
write-requires-clause-within g c =
    let j = c.loop-j.j in
    let m = c.args.width in
    let lt : j < length c.args.sums.now = grind arith in
    let room = row_within (length c.args.sums.now) m j lt in
    let part = length-part (j * m) m c.loop-j.parity (omega (arith, room, c.requires.room, c.loop-j.auto.parity)) in
    rw (c.loop-j.invariant.0, part) (c.requires.within j c.index-sums-j.result lt)

pub loop-j-preserved : goal.loop-j-preserved
loop-j-preserved g c =
    let j = c.loop-j.j in
    let m = c.args.width in
    let sums = c.args.sums.now in
    let ring = c.args.ring.now in
    let lt : j < length c.args.sums.now = grind arith in
    let room = row_within (length sums) m j lt in
    let long : length c.loop-j.parity ≡ length sums * m = c.loop-j.auto.parity ∙ c.requires.room in
    let part = length-part (j * m) m c.loop-j.parity (omega (arith, room, long)) in (
      ap (set c.loop-j.sums j) c.write.ensures.same ∙ set-get_or c.loop-j.sums j c.index-sums-j.result ∙ c.loop-j.invariant.0,
      λ i x d hi hx.
          rows_more (length sums) m j (j * m) c.loop-j.parity c.write.new.dst (λ i x. sum_of g.F.Field.act (get_or sums i d) (λ lag at. get_or ring.bytes (place_of ring lag + at + x) 0)) long lt refl (c.write.auto.dst ∙ part)
          (λ x hx.
          c.write.ensures.sum x (omega (arith, part))
          ∙ ap (λ (s : Sum g.row.F.Denot). sum_of g.F.Field.act s (λ lag at. get_or ring.bytes (place_of ring lag + at + x) 0))
          (ap (λ (l : List (Sum g.row.F.Denot)). get_or l j c.index-sums-j.result) c.loop-j.invariant.0 ∙ get_or_default sums j c.index-sums-j.result d lt))
          (λ i x lo hx. c.loop-j.invariant.1 i x d lo hx) i x hi hx,
    )

pub returns-clause-sums : goal.returns-clause-sums
returns-clause-sums g c j x d hj hx =
    let all : length c.args.sums.now ≤ c.loop-j.j = grind arith in
    c.loop-j.invariant.1 j x d (omega arith) hx
