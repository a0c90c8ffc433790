use Rattle.std.proofs.Common.{◌+◌, arith}
use Rattle.sc_matrix.proofs.LayoutLaws.{row_within}
use Rattle.sc_slots.proofs.maker.SlotMaker.start.Goals as goal

pub start-requires-clause-width : goal.start-requires-clause-width
start-requires-clause-width c =
    omega (arith, c.from-width.ensures, c.k-k.ensures.limits.in_range, c.k-k.ensures.number, c.requires.limit, row_within (c.args.code.now.k + c.args.code.now.r) c.args.m 0 (omega (arith, c.k-k.ensures.limits.in_range)))
