use Rattle.std.proofs.Common.{◌++◌, ◌+◌, drop, ap, ◌∙◌, arith}
use Rattle.std.proofs.lemmas.List.{length-append}
use Rattle.sc_matrix.specs.Matrix.{row_count}
use Rattle.sc_window.specs.Rows.{slot_rows, window_rows}
use Rattle.sc_window.proofs.RowSteps.{rows_lost, rows_kept, length-slot_rows}
use Rattle.sc_window.proofs.window.push_rows.Goals as goal
use Rattle.sc_window.proofs.window.push_rows.Goals.{then-not-lost+in_ok-push_slot, else-not-lost}

pub loop-t-preserved : goal.loop-t-preserved
loop-t-preserved g c =
    let zero = g.F.Field.zero in
    let code = c.args.code.now in
    let class = c.args.class.now in
    let t = c.loop-t.t in
    let rest = window_rows zero code class (t + 1) (drop (t + 1) class) in
    let whole = window_rows zero code class 0 class in
    elim c.if-not-lost.branch [
      | then-not-lost+in_ok-push_slot w ↦
          let now = w.matrix-is ∙ w.in_ok-push_slot.ensures in
          let l = length-append c.loop-t.matrix.rows (slot_rows zero code class t) in
          let r = length-slot_rows zero code class t in
          let n = ap row_count now in
          let before = c.loop-t.invariant.count in
          record {
            cols = ap (λ m. m.cols) now ∙ c.loop-t.invariant.cols;
            count = omega arith;
            rows = ap (λ m. m.rows ++ rest) now ∙ rows_kept zero code class t _ c.loop-t.matrix.rows whole c.loop-t-test.true w.if-not-lost.true c.loop-t.invariant.rows;
          }
      | else-not-lost w ↦
          let n = ap row_count w.matrix-is in
          let before = c.loop-t.invariant.count in
          record {
            cols = ap (λ m. m.cols) w.matrix-is ∙ c.loop-t.invariant.cols;
            count = omega arith;
            rows = ap (λ m. m.rows ++ rest) w.matrix-is ∙ rows_lost zero code class t _ c.loop-t.matrix.rows whole c.loop-t-test.true w.if-not-lost.false c.loop-t.invariant.rows;
          }
    ]
