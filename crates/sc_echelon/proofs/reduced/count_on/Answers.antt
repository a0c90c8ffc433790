use Rattle.std.proofs.Common.{◌∙◌, arith}
use Rattle.sc_echelon.proofs.StoredReduced.{on_more, off_more}
use Rattle.sc_echelon.proofs.reduced.count_on.Goals as goal
use Rattle.sc_echelon.proofs.reduced.count_on.Goals.{then-flags-k, else-flags-k}

pub loop-k-preserved : goal.loop-k-preserved
loop-k-preserved c =
    let h = c.loop-k.invariant.value in
    let small = c.loop-k.invariant.small in
    elim c.if-flags-k.branch [
      | then-flags-k w ↦ record { value = w.count-is ∙ on_more c.args.flags.now c.loop-k.k c.loop-k.count w.if-flags-k.true h; small = let e = w.count-is in omega arith }
      | else-flags-k w ↦ record { value = w.count-is ∙ off_more c.args.flags.now c.loop-k.k c.loop-k.count w.if-flags-k.false h; small = let e = w.count-is in omega arith }
    ]
