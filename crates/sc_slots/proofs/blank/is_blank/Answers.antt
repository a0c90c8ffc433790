use Rattle.std.proofs.Common.{◌≡◌, length, arith}
use Rattle.sc_slots.proofs.BlankLaws.{none_set-more, none_set-all}
use Rattle.sc_slots.proofs.blank.is_blank.Goals as goal

pub loop-byte-preserved : goal.loop-byte-preserved
loop-byte-preserved c = none_set-more c.args.bytes.now c.loop-byte.bits c.loop-byte.byte-index c.loop-byte.invariant

pub returns : goal.returns
returns c =
    let all : c.loop-byte.byte-index ≡ length c.args.bytes.now = omega (arith, c.loop-byte-test.false, c.loop-byte.auto.byte-index-end) in
    none_set-all c.args.bytes.now c.loop-byte.bits c.loop-byte.byte-index all c.loop-byte.invariant
