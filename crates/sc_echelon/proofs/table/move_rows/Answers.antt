use Rattle.std.proofs.Common.{◌≡◌, ◌+◌, ◌-◌, ◌<◌, length, get_or, set, drop, replicate, sym, ◌∙◌, ap, arith}
use Rattle.std.proofs.lemmas.List.{length-set, length-append, length-drop, length-replicate}
use Rattle.std.proofs.lemmas.List.Elements.{All-set}
use Rattle.sc_echelon.specs.Steps.{shift_row}
use Rattle.sc_echelon.proofs.StoredForget.{moved_on, moved_skip, All-swapped}
use Rattle.sc_echelon.proofs.table.move_rows.Goals as goal

pub loop-k-preserved : goal.loop-k-preserved
loop-k-preserved g c =
    let zero = g.F.Field.zero in
    let used = c.args.used.now in
    let old = c.args.rows.now in
    let count = c.args.count in
    let k = c.loop-k.k in
    let rows = c.loop-k.rows in
    let h = c.loop-k.invariant in
    let behind = h.behind in
    let before = c.loop-k-test.true in
    let r = c.index-rows-k.result in
    let count_is = h.moved.size in
    let stored = c.requires.size in
    let within : k < length rows = omega arith in
    let is : r ≡ get_or rows k r = c.index-rows-k.is in
    let new = c.shift.new.self in
    let swapped = c.swap.new.self in
    let width : length r.coeffs ≡ length used = ap (λ s. length s.coeffs) is ∙ h.widths k r within in
    let made : new ≡ shift_row zero count r = c.shift.ensures ∙ ap (shift_row zero count) (sym is) in
    let a = length-append (drop count r.coeffs) (replicate count zero) in
    let b = length-drop count r.coeffs in
    let d = length-replicate count zero in
    let new_width : length new.coeffs ≡ length used = ap (λ s. length s.coeffs) made ∙ omega arith in
    let size = length-set rows k new in
    let front : k - count < length (set rows k new) = omega arith in
    let back : k < length (set rows k new) = omega arith in
    let next = c.next_on-k-in-loop-k.ensures in
    let order = next.order in
    record {
      behind = omega arith;
      within = next.within;
      on = next.on;
      moved =
          moved_skip zero count used old (k + 1) swapped c.next_on-k-in-loop-k.result order next.off
          (moved_on zero count used old k rows r new swapped behind (omega arith) is made c.swap.ensures.by_index (c.swap.ensures.len ∙ size) h.moved);
      widths =
          All-swapped (λ s. length s.coeffs ≡ length used) (set rows k new) swapped (k - count) k front back c.swap.ensures.by_index
          (All-set (λ s. length s.coeffs ≡ length used) rows k new new_width h.widths);
      rights = λ n all.
          All-swapped (λ s. length s.right ≡ n) (set rows k new) swapped (k - count) k front back c.swap.ensures.by_index
          (All-set (λ s. length s.right ≡ n) rows k new (ap (λ s. length s.right) (made ∙ ap (shift_row zero count) is) ∙ h.rights n all k r within) (h.rights n all));
    }
