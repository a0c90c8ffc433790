use Rattle.std.proofs.Common.{◌≡◌, ℕ, ◌+◌, ◌<◌, List, length, get_or, set, ap, ◌∙◌, sym, subst, arith}
use Rattle.std.proofs.lemmas.List.{get_or_default}
use Rattle.sc_repair.specs.Sum.{IsOpening}
use Rattle.sc_repair.proofs.SumSteps.{opening_more, opening_skip, opening_done}
use Rattle.sc_repair.proofs.sum.write_rest.Goals as goal
use Rattle.sc_repair.proofs.sum.write_rest.Goals.{then-not-flags-first, else-not-flags-first}

pub loop-i-preserved : goal.loop-i-preserved
loop-i-preserved c =
    let n = length c.args.row.now in
    let first = c.args.first in
    let own = c.args.own.now in
    let flags = c.args.flags.now in
    let cols = c.args.cols.now in
    let h = c.requires.columns in
    let i = c.loop-i.i in
    let lt : i < length cols = c.loop-i-test.true in
    elim c.if-not-flags-first.branch [
      | then-not-flags-first w ↦
          let within = h.within i lt in
          let x = w.index-own-c.result in
          let is : x ≡ get_or own (get_or cols i 0) 0 = w.index-own-c.is ∙ get_or_default own (get_or cols i 0) x 0 (omega arith) in
          subst (λ (r : List ℕ). IsOpening n first own flags cols (i + 1) r) (sym (w.row-is ∙ ap (λ (y : ℕ). set c.loop-i.row (first + get_or cols i 0) y) is))
          (opening_more n first own c.requires.room flags cols h i c.loop-i.row c.loop-i.invariant lt w.if-not-flags-first.true)
      | else-not-flags-first w ↦
          subst (λ (r : List ℕ). IsOpening n first own flags cols (i + 1) r) (sym w.row-is)
          (opening_skip n first own c.requires.room flags cols h i c.loop-i.row c.loop-i.invariant lt w.if-not-flags-first.false)
    ]

pub returns-clause-open : goal.returns-clause-open
returns-clause-open c =
    opening_done (length c.args.row.now) c.args.first c.args.own.now c.requires.room c.args.flags.now c.args.cols.now c.requires.columns c.loop-i.row c.loop-i.i (omega (arith, c.loop-i-test.false, c.loop-i.auto.i-end)) c.loop-i.invariant
