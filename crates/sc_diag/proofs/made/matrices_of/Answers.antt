use Rattle.std.proofs.Common.{ℕ, List, [], ◌∷◌, ◌++◌, sym, ap₂, ◌∙◌, arith}
use Rattle.std.proofs.lemmas.List.FromFn.{map-range_with_len_more}
use Rattle.sc_matrix.specs.Matrix.{Matrix}
use Rattle.sc_diag.specs.Made.{matrix_with}
use Rattle.sc_diag.proofs.made.matrices_of.Goals as goal

pub loop-lag-preserved : goal.loop-lag-preserved
loop-lag-preserved g c =
    let e = c.args.entries.now in
    let lag = c.loop-lag.lag in
    c.in_ok-push.ensures.items ∙ ap₂ (λ (ms : List (Matrix ℕ)) (m : Matrix ℕ). ms ++ m ∷ []) c.loop-lag.invariant c.in_ok-matrix_of.ensures
    ∙ sym (map-range_with_len_more (λ lag. matrix_with (g.E.Entries.rows e) (g.E.Entries.cols e) (g.E.Entries.entry e lag)) 0 lag lag (omega arith))
