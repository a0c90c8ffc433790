use Rattle.std.proofs.Common.{◌≡◌, ℕ, ◌*◌, ◌+◌, ◌-◌, ◌<◌, List, [], true, false, length, get_or, set, take, drop, refl, sym, ap, ap₂, ◌∙◌, subst, arith}
use Rattle.std.proofs.lemmas.List.{get_or_default}
use Rattle.sc_field.specs.Scale.{scaled_sum}
use Rattle.sc_field.specs.Gf256.{gf256_product}
use Rattle.sc_matrix.specs.Layout.{cut}
use Rattle.sc_matrix.proofs.LayoutLaws.{row_part, length-row}
use Rattle.sc_repair.specs.Columns.{TakenOut}
use Rattle.sc_repair.proofs.ColumnSteps.{taken_more, taken_kept}
use Rattle.sc_repair.proofs.columns.take_out.Goals as goal
use Rattle.sc_repair.proofs.columns.take_out.Goals.{then-whole-c, else-whole-c}

pub loop-c-preserved : goal.loop-c-preserved
loop-c-preserved c =
    let n = length c.args.row.now in
    let m = length c.args.sum.now in
    let i = c.loop-c.c in
    let row = c.loop-c.row in
    let sum = c.loop-c.sum in
    let whole = c.args.whole.now in
    let bytes = c.args.bytes.now in
    let h = c.loop-c.invariant in
    let count : length row ≡ n = h.0 in
    let long : length sum ≡ m = h.1 in
    let lt : i < n = omega (arith, c.loop-c-test.true) in
    let x = c.index-row-c.result in
    let here : x ≡ get_or row i 0 = c.index-row-c.is ∙ get_or_default row i x 0 (omega arith) in
    let byte : get_or row i 0 < 256 = subst (λ (v : ℕ). v < 256) here c.known.ensures in
    let sum_there : (v : ℕ) → v ≡ get_or row i 0 → scaled_sum (gf256_product v) sum (take ((i * m + m) - i * m) (drop (i * m) bytes)) ≡ scaled_sum (gf256_product (get_or row i 0)) sum (get_or (cut n m bytes) i []) =
    λ v e. ap₂ (λ (y : ℕ) (p : List ℕ). scaled_sum (gf256_product y) sum p) e (row_part n m bytes i (i * m) (omega arith) lt) in
    elim c.if-whole-c.branch [
      | then-whole-c w ↦
          let row_is : set row i 0 ≡ c.if-whole-c.row = sym (w.row-is ∙ ap (λ (z : ℕ). set row i z) w.zero.ensures.value) in
          let sum_is : scaled_sum (gf256_product (get_or row i 0)) sum (get_or (cut n m bytes) i []) ≡ c.if-whole-c.sum =
          sym (w.sum-is ∙ w.add_product.ensures ∙ sum_there x here) in
          subst (λ (r : List ℕ). TakenOut whole (cut n m bytes) m c.args.row.now c.args.sum.now (i + 1) r c.if-whole-c.sum) row_is
          (subst (λ (s : List ℕ). TakenOut whole (cut n m bytes) m c.args.row.now c.args.sum.now (i + 1) (set row i 0) s) sum_is
          (taken_more whole (cut n m bytes) m c.args.row.now c.args.sum.now row sum i (get_or (cut n m bytes) i []) h lt byte w.if-whole-c.true refl refl (length-row n m bytes i c.requires.bytes lt)))
      | else-whole-c w ↦
          subst (λ (r : List ℕ). TakenOut whole (cut n m bytes) m c.args.row.now c.args.sum.now (i + 1) r c.if-whole-c.sum) (sym w.row-is)
          (subst (λ (s : List ℕ). TakenOut whole (cut n m bytes) m c.args.row.now c.args.sum.now (i + 1) row s) (sym w.sum-is)
          (taken_kept whole (cut n m bytes) m c.args.row.now c.args.sum.now row sum i h byte (λ e. absurd (let other : true ≡ false = sym e ∙ w.if-whole-c.false in cc))))
    ]
