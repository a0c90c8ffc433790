use Rattle.std.proofs.Common.{◌≡◌, ℕ, ap, sym, ◌∙◌, arith}
use Rattle.std.proofs.lemmas.Result.{IfOk-weaker}
use Rattle.std.proofs.lemmas.List.{length-map}
use Rattle.sc_layered.specs.Draw.{generator}
use Rattle.sc_matrix.specs.Matrix.{Matrix, row_count}
use Rattle.sc_optimal.proofs.SizeSteps.{rows-drawn, few_entries}
use Rattle.sc_optimal.proofs.parity.low_rank.Goals as goal

pub mul-requires-clause-inner : goal.mul-requires-clause-inner
mul-requires-clause-inner c =
    let words = generator c.args.draws.now.seed in
    ap (λ (m : Matrix ℕ). m.cols) c.in_ok-left.ensures
    ∙ sym (rows-drawn words c.right_from-from.result c.sizes.inside.rank c.other_cols-cols.result c.in_ok-right.right c.in_ok-right.ensures)

pub mul-requires-clause-small : goal.mul-requires-clause-small
mul-requires-clause-small c =
    let words = generator c.args.draws.now.seed in
    let rows = rows-drawn words c.left_from-from.result c.first_rows-rows.result c.sizes.inside.rank c.in_ok-left.left c.in_ok-left.ensures in
    let cols : c.in_ok-right.right.cols ≡ c.other_cols-cols.result = ap (λ (m : Matrix ℕ). m.cols) c.in_ok-right.ensures in
    few_entries (row_count c.in_ok-left.left) c.in_ok-right.right.cols
    (omega (arith, rows, c.first_rows-rows.ensures.bound))
    (omega (arith, cols, c.other_cols-cols.ensures.bound))

pub returns-clause-rows : goal.returns-clause-rows
returns-clause-rows c =
    let words = generator c.args.draws.now.seed in
    let rows = rows-drawn words c.left_from-from.result c.first_rows-rows.result c.sizes.inside.rank c.in_ok-left.left c.in_ok-left.ensures in
    IfOk-weaker c.mul.result _ _ (λ m e. ap row_count e ∙ length-map c.in_ok-left.left.rows _ ∙ rows ∙ c.first_rows-rows.ensures.value) c.mul.ensures
