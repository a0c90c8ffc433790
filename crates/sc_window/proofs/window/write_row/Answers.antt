use Rattle.std.proofs.Common.{◌++◌, ◌+◌, ℕ, List, map, drop, ap, ◌∙◌}
use Rattle.sc_window.specs.Rows.{window_row}
use Rattle.sc_window.proofs.RowSteps.{row_lost, row_kept}
use Rattle.sc_window.proofs.window.write_row.Goals as goal
use Rattle.sc_window.proofs.window.write_row.Goals.{then-lost+in_ok-push_block, else-lost}

pub loop-s-preserved : goal.loop-s-preserved
loop-s-preserved g c =
    let zero = g.F.Field.zero in
    let code = c.args.code.now in
    let class = c.args.class.now in
    let s = c.loop-s.s in
    let number = g.F.Field.number in
    let rest = map number (window_row zero code c.args.t c.args.j (s + 1) (drop (s + 1) class)) in
    let whole = map number (window_row zero code c.args.t c.args.j 0 class) in
    elim c.if-lost.branch [
      | then-lost+in_ok-push_block w ↦
          ap (λ row. row.items ++ rest) w.row-is ∙ ap (λ (xs : List ℕ). xs ++ rest) w.in_ok-push_block.ensures
          ∙ row_lost zero code number c.args.t c.args.j s class _ c.loop-s.row.items whole c.loop-s-test.true w.if-lost.true c.loop-s.invariant
      | else-lost w ↦
          ap (λ row. row.items ++ rest) w.row-is
          ∙ row_kept zero code number c.args.t c.args.j s class _ c.loop-s.row.items whole c.loop-s-test.true w.if-lost.false c.loop-s.invariant
    ]
