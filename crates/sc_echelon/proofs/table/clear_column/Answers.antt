use Rattle.std.proofs.Common.{◌≡◌, ◌+◌, ◌<◌, length, refl, get_or, set, subst, sym, ◌∙◌, ap, arith}
use Rattle.std.proofs.lemmas.List.{length-map}
use Rattle.std.proofs.lemmas.List.Elements.{All-set}
use Rattle.sc_matrix.specs.Vector.{scale_vector}
use Rattle.sc_matrix.proofs.VectorLaws.{length-add_vectors, length-scale_vector}
use Rattle.sc_echelon.specs.Steps.{plus_row, cleared, clear_at}
use Rattle.sc_echelon.specs.Storage.{ChangedBelow}
use Rattle.sc_echelon.specs.Knowledge.{xor_bytes, act_bytes}
use Rattle.sc_echelon.proofs.Bytes.{bytes_module}
use Rattle.sc_echelon.proofs.Skipped.{changed-from, changed-to}
use Rattle.sc_echelon.proofs.StoredSteps.{cleared_on, cleared_skip}
use Rattle.sc_echelon.proofs.table.clear_column.Goals as goal

pub loop-k-preserved : goal.loop-k-preserved
loop-k-preserved g c =
    let add = g.F.Field.add in
    let mul = g.F.Field.mul in
    let by = c.args.by.now in
    let h = c.loop-k.invariant in
    let k = c.loop-k.k in
    let rows = c.loop-k.rows in
    let count = h.changed.count in
    let range = c.requires.range in
    let same = c.requires.count in
    let before = c.loop-k-test.true in
    let r = c.index-rows-k.result in
    let within : k < length rows = omega arith in
    let is : r ≡ get_or rows k r = c.index-rows-k.is in
    let width : length r.coeffs ≡ length by.coeffs = ap (λ s. length s.coeffs) is ∙ h.widths k r within in
    let size : length r.right ≡ length by.right = ap (λ s. length s.right) is ∙ h.rights k r within in
    let x = g.F.Field.sub g.F.Field.zero (get_or r.coeffs c.args.p g.F.Field.zero) in
    let act = act_bytes g.F.Field.act in
    let new = c.clear_by.new.row in
    let made : new ≡ plus_row add mul xor_bytes act r x by = c.clear_by.ensures ∙ ap (λ s. cleared g.F.Field.zero add g.F.Field.sub mul xor_bytes act s c.args.p by) (sym is) in
    let new_width : length new.coeffs ≡ length by.coeffs =
    ap (λ s. length s.coeffs) made ∙ length-add_vectors add r.coeffs (scale_vector mul x by.coeffs) (width ∙ sym (length-scale_vector mul x by.coeffs)) ∙ width in
    let new_size : length new.right ≡ length by.right =
    ap (λ s. length s.right) made ∙ length-add_vectors _ r.right (act x by.right) (size ∙ sym (length-map by.right (g.F.Field.act x))) ∙ size in
    let next = c.next_on-k-in-loop-k.ensures in
    record {
      within = next.within;
      on = next.on;
      changed =
          cleared_skip g.F.Field.zero add g.F.Field.sub mul xor_bytes act c.args.p by c.args.used.now c.args.rows.now (k + 1) c.next_on-k-in-loop-k.result (set rows k new) next.order next.off
          (cleared_on g.F.Field.zero add g.F.Field.sub mul xor_bytes act c.args.p by c.args.used.now c.args.rows.now k rows r new x (omega arith) (h.on before) is refl made h.changed);
      widths = All-set (λ s. length s.coeffs ≡ length by.coeffs) rows k new new_width h.widths;
      rights = All-set (λ s. length s.right ≡ length by.right) rows k new new_size h.rights;
    }

-- the rows before the first that may have another coefficient than zero in the column
pub loop-k-init : goal.loop-k-init
loop-k-init g c =
    let by = c.args.by.now in
    let first = c.next_on-k.ensures in
    record {
      within = first.within;
      on = first.on;
      changed =
          cleared_skip g.F.Field.zero g.F.Field.add g.F.Field.sub g.F.Field.mul xor_bytes (act_bytes g.F.Field.act) c.args.p by c.args.used.now c.args.rows.now c.args.first c.next_on-k.result c.args.rows.now first.order first.off
          (changed-from g.met.F.Field.field (bytes_module g.met.F.Field.action (length by.right)) (length by.coeffs) c.args.p by
          (record { width = refl; elements = c.known.ensures.elements; value = record { width = refl; entries = c.known.ensures.bytes } })
          c.args.used.now c.args.rows.now c.requires.count c.requires.elements c.args.first c.args.end c.requires.others);
      widths = c.requires.widths;
      rights = c.requires.rights;
    }

-- and those from the end of these on
pub returns-clause-cleared : goal.returns-clause-cleared
returns-clause-cleared g c =
    let by = c.args.by.now in
    let below = c.loop-k.invariant.within in
    let past = c.loop-k-test.false in
    let all : c.loop-k.k ≡ c.args.end = omega arith in
    changed-to g.met.F.Field.field (bytes_module g.met.F.Field.action (length by.right)) (length by.coeffs) c.args.p by
    (record { width = refl; elements = c.known.ensures.elements; value = record { width = refl; entries = c.known.ensures.bytes } })
    c.args.used.now c.args.rows.now c.requires.count c.requires.elements c.args.first c.args.end c.requires.others c.loop-k.rows
    (subst (λ k. ChangedBelow (clear_at g.F.Field.zero g.F.Field.add g.F.Field.sub g.F.Field.mul xor_bytes (act_bytes g.F.Field.act) c.args.p by) c.args.used.now c.args.rows.now k c.loop-k.rows) all c.loop-k.invariant.changed)
