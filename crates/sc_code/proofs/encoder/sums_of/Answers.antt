use Rattle.std.proofs.Common.{ℕ, length, [], ◌∷◌, sym, subst, arith}
use Rattle.std.proofs.lemmas.List.{length-append}
use Rattle.sc_code.specs.Sum.{Sum, HasTerms}
use Rattle.sc_code.proofs.SumSteps.{each_more}
use Rattle.sc_code.proofs.encoder.sums_of.Goals as goal

pub loop-j-preserved : goal.loop-j-preserved
loop-j-preserved g c =
    let items = c.loop-j.sums.items in
    let sum = c.in_ok-sum.sum in
    let count = c.loop-j.invariant.0 in
    let code = c.args.code.now in
    rw c.in_ok-push.ensures.items (
      omega (arith, length-append items (sum ∷ []), count),
      each_more (λ (i : ℕ) (s : Sum g.row.F.Denot). HasTerms g.F.Field.zero g.F.Field.act code c.args.width i (length code.lags) 0 s) items sum c.loop-j.invariant.1
          (subst (λ (i : ℕ). HasTerms g.F.Field.zero g.F.Field.act code c.args.width i (length code.lags) 0 sum) (sym count) c.in_ok-sum.ensures),
    )
