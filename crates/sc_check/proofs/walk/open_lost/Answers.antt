use Rattle.std.proofs.Common.{◌≡◌, ℕ, ◌+◌, ◌*◌, ◌≤◌, ◌++◌, length, map, subst, ap, sym, ◌∙◌, arith}
use Rattle.std.specs.List.{range_with_len}
use Rattle.std.proofs.lemmas.Nat.{mul-le}
use Rattle.std.proofs.lemmas.List.FromFn.{length-map-range_with_len}
use Rattle.sc_matrix.specs.Matrix.{row, row_count}
use Rattle.sc_check.specs.Span.{unit_image}
use Rattle.sc_check.proofs.ClearSteps.{rows_so_far}
use Rattle.sc_check.proofs.WalkSteps.{IsSpan-next_lost}
use Rattle.sc_check.proofs.walk.open_lost.Goals as goal

pub push_units-requires-clause-slot : goal.push_units-requires-clause-slot
push_units-requires-clause-slot c =
    let code = c.args.walk.now.code.now in
    let slots = c.args.walk.now.classes.now.t + 1 in
    let images = c.args.walk.now.images.now in
    let all : row_count images ≡ slots * code.k = ap length c.args.walk.now.units.rows ∙ length-map-range_with_len (unit_image code slots) 0 (slots * code.k) in
    let within : (c.args.done + 1) * code.k ≤ slots * code.k = mul-le (c.args.done + 1) code.k slots code.k (omega (arith, c.requires.slot, c.requires.room)) (omega arith) in
    subst (λ (k : ℕ). c.args.done * k + k ≤ row_count images) (sym c.k.ensures.number) (omega (arith, all, within))

pub returns-clause-span : goal.returns-clause-span
returns-clause-span c =
    let code = c.args.walk.now.code.now in
    let images = c.args.walk.now.images.now in
    IsSpan-next_lost code (c.args.walk.now.classes.now.t + 1) c.args.flags.now c.args.done c.args.vectors.now c.push_units.new.rows images c.k.ensures.limits c.requires.room c.known.ensures.shape c.requires.slot c.requires.set c.args.walk.now.units c.requires.span c.in_ok-push_units.ensures.cols
    (subst (λ (k : ℕ). c.push_units.new.rows.rows ≡ c.args.vectors.now.rows ++ map (λ p. row images (c.args.done * k + p)) (range_with_len 0 k)) c.k.ensures.number c.in_ok-push_units.ensures.rows)

pub returns-clause-rows : goal.returns-clause-rows
returns-clause-rows c =
    let long = rows_so_far c.args.vectors.now.rows c.push_units.new.rows.rows (λ p. row c.args.walk.now.images.now (c.args.done * c.k.result + p)) c.k.result c.in_ok-push_units.ensures.rows in
    let small = c.k.ensures.limits.in_range.size_limit in
    omega (arith, long, c.k.ensures.number, small, c.requires.rows)
