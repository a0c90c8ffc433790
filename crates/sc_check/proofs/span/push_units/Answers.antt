use Rattle.std.proofs.Common.{ℕ, ◌+◌, ◌*◌, ap, ◌∙◌, arith}
use Rattle.std.proofs.lemmas.Nat.{mul-le}
use Rattle.sc_matrix.specs.Matrix.{Matrix, row, row_count}
use Rattle.sc_check.proofs.ClearSteps.{bounded, rows_so_far, one_more}
use Rattle.sc_check.proofs.span.push_units.Goals as goal

pub overflow_mul-s : goal.overflow_mul-s
overflow_mul-s c = omega (arith, mul-le c.args.s c.args.k 41 64 c.requires.slots c.requires.small)

pub overflow_add-s : goal.overflow_add-s
overflow_add-s c = omega (arith, mul-le c.args.s c.args.k 41 64 c.requires.slots c.requires.small, c.loop-p-test.true, c.requires.small)

pub push_row-requires-clause-small : goal.push_row-requires-clause-small
push_row-requires-clause-small c =
    let long = rows_so_far c.args.rows.now.rows c.loop-p.rows.rows (λ p. row c.args.images.now (c.args.s * c.args.k + p)) c.loop-p.p c.loop-p.invariant.1 in
    omega (arith, bounded (row_count c.loop-p.rows + 1) c.loop-p.rows.cols (omega (arith, long, c.requires.few, c.requires.small, c.loop-p-test.true)) (omega (arith, c.loop-p.invariant.0, c.requires.narrow)))

pub push_row-requires-clause-counts : goal.push_row-requires-clause-counts
push_row-requires-clause-counts c =
    let long = rows_so_far c.args.rows.now.rows c.loop-p.rows.rows (λ p. row c.args.images.now (c.args.s * c.args.k + p)) c.loop-p.p c.loop-p.invariant.1 in
    omega (arith, long, c.requires.few, c.requires.small, c.loop-p-test.true)

pub loop-p-preserved : goal.loop-p-preserved
loop-p-preserved c =
    let pushed = c.in_ok-push_row.ensures.pushed in (
      ap (λ (m : Matrix ℕ). m.cols) pushed ∙ c.loop-p.invariant.0,
      one_more c.args.rows.now.rows c.loop-p.rows.rows c.push_row.new.self.rows (λ p. row c.args.images.now (c.args.s * c.args.k + p)) c.loop-p.p _ (ap (λ (m : Matrix ℕ). m.rows) pushed) c.loop-p.invariant.1 c.row.ensures.value,
    )
