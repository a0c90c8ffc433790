use Rattle.std.proofs.Common.{◌≡◌, ◌+◌, get_or, arith}
use Rattle.sc_echelon.proofs.Skipped.{outside_lone, outside_row}
use Rattle.sc_echelon.proofs.table.first_touched.Goals as goal

pub loop-k-init : goal.loop-k-init
loop-k-init g c =
    let next = c.next_on-k.ensures in
    record {
      order = next.order;
      within = next.within;
      others = outside_lone g.F.Field.zero c.args.p c.args.mixed.now c.args.used.now c.args.rows.now c.requires.count c.args.first c.next_on-k.result next.within next.off c.requires.lone c.requires.others;
    }

pub loop-k-preserved : goal.loop-k-preserved
loop-k-preserved g c =
    let h = c.loop-k.invariant in
    let k = c.loop-k.k in
    let before = c.loop-k-test.true in
    let inside = c.requires.p_in in
    let next = c.next_on-k-in-loop-k.ensures in
    let order = h.order in
    let zero : get_or c.index-rows-k.result.coeffs c.args.p g.F.Field.zero ≡ g.F.Field.zero = c.is_zero_at.ensures c.if-is_zero_at.true in
    record {
      order = let o = next.order in omega arith;
      within = next.within;
      others =
          outside_lone g.F.Field.zero c.args.p c.args.mixed.now c.args.used.now c.args.rows.now c.requires.count (k + 1) c.next_on-k-in-loop-k.result next.within next.off c.requires.lone
          (outside_row g.F.Field.zero c.args.p c.args.mixed.now c.args.used.now c.args.rows.now c.requires.count k c.index-rows-k.result (omega arith) c.index-rows-k.is zero h.others);
    }
