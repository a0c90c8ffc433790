use Rattle.std.proofs.Common.{◌+◌, ◌∙◌, map, sym, arith}
use Rattle.std.specs.List.{range_with_len}
use Rattle.std.proofs.lemmas.List.FromFn.{map-range_with_len_more}
use Rattle.sc_window.specs.Rows.{window_entry}
use Rattle.sc_window.proofs.RowSteps.{pushed}
use Rattle.sc_window.proofs.window.push_block.Goals as goal

pub loop-i-preserved : goal.loop-i-preserved
loop-i-preserved g c =
    let entry = window_entry g.F.Field.zero c.args.code.now c.args.t c.args.j c.args.s in
    let i = c.loop-i.i in
    c.in_ok-push.ensures.items
    ∙ pushed g.F.Field.number c.args.row.now.items c.loop-i.row.items (map entry (range_with_len 0 i)) (map entry (range_with_len 0 (i + 1))) (entry i) c.entry_at-entry.result c.loop-i.invariant c.entry_at-entry.ensures
    (sym (map-range_with_len_more entry 0 i i (omega arith)))
