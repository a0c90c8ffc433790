use Rattle.std.proofs.Common.{ℕ, List, [], ◌∷◌, ◌++◌, sym, ap₂, ◌∙◌, arith}
use Rattle.std.proofs.lemmas.List.FromFn.{map-range_with_len_more}
use Rattle.sc_diag.proofs.made.row_of.Goals as goal

pub loop-j-preserved : goal.loop-j-preserved
loop-j-preserved g c =
    let f = g.E.Entries.entry c.args.entries.now c.args.lag c.args.i in
    let j = c.loop-j.j in
    c.in_ok-push.ensures.items ∙ ap₂ (λ (xs : List ℕ) (x : ℕ). xs ++ x ∷ []) c.loop-j.invariant (c.number.ensures ∙ c.at.ensures)
    ∙ sym (map-range_with_len_more f 0 j j (omega arith))
