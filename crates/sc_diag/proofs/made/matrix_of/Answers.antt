use Rattle.std.proofs.Common.{◌≡◌, ℕ, length, sym, ap, ap₂, ◌∙◌, arith}
use Rattle.std.proofs.lemmas.List.FromFn.{length-map-range_with_len}
use Rattle.sc_matrix.specs.Matrix.{Matrix, row_count, with_last_row}
use Rattle.sc_diag.proofs.MadeLaws.{row_count-matrix_with, with_last_row-matrix_with}
use Rattle.sc_diag.proofs.made.matrix_of.Goals as goal

pub push_bytes-requires-clause-width : goal.push_bytes-requires-clause-width
push_bytes-requires-clause-width g c =
    let e = c.args.entries.now in
    let f = g.E.Entries.entry e c.args.lag c.loop-i.i in
    ap length (c.as_slice.ensures.value ∙ c.in_ok-row.ensures) ∙ length-map-range_with_len f 0 (g.E.Entries.cols e) ∙ sym (ap (λ (m : Matrix ℕ). m.cols) c.loop-i.invariant)

pub push_bytes-requires-clause-count : goal.push_bytes-requires-clause-count
push_bytes-requires-clause-count g c =
    let e = c.args.entries.now in
    let count : row_count c.loop-i.m ≡ c.loop-i.i = ap row_count c.loop-i.invariant ∙ row_count-matrix_with c.loop-i.i (g.E.Entries.cols e) (g.E.Entries.entry e c.args.lag) in
    rw count (omega (arith, c.rows-i-end.ensures, c.requires.small))

pub push_bytes-requires-clause-cols : goal.push_bytes-requires-clause-cols
push_bytes-requires-clause-cols g c =
    let cols : c.loop-i.m.cols ≡ g.E.Entries.cols c.args.entries.now = ap (λ (m : Matrix ℕ). m.cols) c.loop-i.invariant in
    omega (arith, cols, c.requires.small)

pub loop-i-preserved : goal.loop-i-preserved
loop-i-preserved g c =
    let e = c.args.entries.now in
    c.in_ok-push_bytes.ensures ∙ ap₂ with_last_row c.loop-i.invariant (c.as_slice.ensures.value ∙ c.in_ok-row.ensures)
    ∙ with_last_row-matrix_with c.loop-i.i (g.E.Entries.cols e) (g.E.Entries.entry e c.args.lag)
