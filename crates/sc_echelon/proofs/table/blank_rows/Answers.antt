use Rattle.std.proofs.Common.{◌≡◌, [], ◌∷◌, length, ap, arith}
use Rattle.std.proofs.lemmas.List.{length-append}
use Rattle.std.proofs.lemmas.List.Elements.{All-same, All-push}
use Rattle.sc_echelon.proofs.table.blank_rows.Goals as goal

pub loop-k-preserved : goal.loop-k-preserved
loop-k-preserved g c =
    let row = c.in_ok-row.row in
    let cols = c.args.cols in
    let width = c.args.width in
    let l = length-append c.loop-k.rows.items (row ∷ []) in
    let h = c.loop-k.invariant.count in
    let e = ap length c.in_ok-push.ensures.items in
    record {
      count = omega arith;
      widths = All-same (λ r. length r.coeffs ≡ cols) _ _ c.in_ok-push.ensures.items (All-push (λ r. length r.coeffs ≡ cols) c.loop-k.rows.items row c.loop-k.invariant.widths c.in_ok-row.ensures.cols);
      rights = All-same (λ r. length r.right ≡ width) _ _ c.in_ok-push.ensures.items (All-push (λ r. length r.right ≡ width) c.loop-k.rows.items row c.loop-k.invariant.rights c.in_ok-row.ensures.width);
    }
