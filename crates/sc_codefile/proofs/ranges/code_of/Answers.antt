use Rattle.std.proofs.Common.{ℕ, List, All, length, map, sym, ap, ◌∙◌, subst}
use Rattle.sc_matrix.specs.Matrix.{Matrix}
use Rattle.sc_code.specs.Code.{IsInRange, HasShape}
use Rattle.sc_codefile.specs.Numbers.{with_cols}
use Rattle.sc_codefile.proofs.CodeSteps.{lags_all, is_code-from, no_code_fault}
use Rattle.sc_codefile.proofs.ranges.code_of.Goals as goal

pub matrices_of-requires-clause-rows : goal.matrices_of-requires-clause-rows
matrices_of-requires-clause-rows c =
    let n = c.args.numbers.now in
    rw c.as_slice.ensures (lags_all n.k n.r n.lags c.requires.lags)

pub unwrap-requires : goal.unwrap-requires
unwrap-requires c =
    let n = c.args.numbers.now in
    let is = is_code-from n.k n.r n.lags c.requires.k c.requires.lags c.requires.r in
    let made = c.in_ok-lags.ensures ∙ ap (map (with_cols n.r)) c.as_slice.ensures in
    no_code_fault c.new.result
    (λ e. c.new.ensures.range.0 e (subst (λ (ms : List (Matrix ℕ)). IsInRange n.k n.r (length ms)) (sym made) is.in_range))
    (λ e. (c.new.ensures.shape.0 e).1 (subst (λ (ms : List (Matrix ℕ)). All (HasShape n.k n.r) ms) (sym made) is.shapes))
