use Rattle.std.proofs.Common.{ℕ, ◌+◌, ◌*◌, ◌/◌, ◌%◌, ◌<◌, ◌≤◌, length, ap, sym, ◌∙◌, arith}
use Rattle.std.proofs.lemmas.List.{map-id}
use Rattle.std.proofs.lemmas.List.FromFn.{length-map-range_with_len}
use Rattle.sc_matrix.specs.Matrix.{Matrix, row_count}
use Rattle.sc_check.specs.Span.{image_width, image_entry, unit_stream, unit_image}
use Rattle.sc_check.proofs.ClearSteps.{bounded, filled, wide_at_most, units_at_most}
use Rattle.sc_check.proofs.span.unit_images.Goals as goal

pub with_capacity-requires : goal.with_capacity-requires
with_capacity-requires c =
    let units : c.args.slots * c.k-2.result ≤ 2624 = rw c.k-2.ensures.number (units_at_most c.args.code.now c.args.slots c.r.ensures.limits c.requires) in
    let wide : c.args.slots * c.r.result + c.k.result ≤ 2688 = rw (c.r.ensures.number, c.k.ensures.number) (wide_at_most c.args.code.now c.args.slots c.r.ensures.limits c.requires) in
    omega (arith, bounded (c.args.slots * c.k-2.result) (c.args.slots * c.r.result + c.k.result) (omega (arith, units)) wide)

pub push_row-requires-clause-width : goal.push_row-requires-clause-width
push_row-requires-clause-width c =
    ap length (c.as_slice.ensures.value ∙ c.in_ok-write_unit.ensures)
    ∙ length-map-range_with_len (image_entry c.args.code.now c.args.slots (unit_stream (c.loop-n.n / c.args.code.now.k) (c.loop-n.n % c.args.code.now.k))) 0 (image_width c.args.code.now c.args.slots)
    ∙ sym c.loop-n.invariant.0

pub push_row-requires-clause-small : goal.push_row-requires-clause-small
push_row-requires-clause-small c =
    let long = ap length c.loop-n.invariant.1 ∙ length-map-range_with_len (unit_image c.args.code.now c.args.slots) 0 c.loop-n.n in
    let units = units_at_most c.args.code.now c.args.slots c.r.ensures.limits c.requires in
    let wide = wide_at_most c.args.code.now c.args.slots c.r.ensures.limits c.requires in
    let below : c.loop-n.n < c.args.slots * c.args.code.now.k = rw (sym c.k-3.ensures.number) c.loop-n-test.true in
    omega (arith, bounded (row_count c.loop-n.images + 1) c.loop-n.images.cols (omega (arith, long, units, below)) (omega (arith, c.loop-n.invariant.0, wide)))

pub push_row-requires-clause-counts : goal.push_row-requires-clause-counts
push_row-requires-clause-counts c =
    let long = ap length c.loop-n.invariant.1 ∙ length-map-range_with_len (unit_image c.args.code.now c.args.slots) 0 c.loop-n.n in
    let units = units_at_most c.args.code.now c.args.slots c.r.ensures.limits c.requires in
    let below : c.loop-n.n < c.args.slots * c.args.code.now.k = rw (sym c.k-3.ensures.number) c.loop-n-test.true in
    omega (arith, long, units, below)

pub loop-n-preserved : goal.loop-n-preserved
loop-n-preserved c =
    let pushed = c.in_ok-push_row.ensures.pushed in (
      ap (λ (m : Matrix ℕ). m.cols) pushed ∙ c.loop-n.invariant.0,
      filled (unit_image c.args.code.now c.args.slots) c.loop-n.images.rows c.push_row.new.self.rows c.loop-n.n _ (ap (λ (m : Matrix ℕ). m.rows) pushed) c.loop-n.invariant.1
          (map-id c.as_slice.result.now ∙ c.as_slice.ensures.value ∙ c.in_ok-write_unit.ensures),
    )
