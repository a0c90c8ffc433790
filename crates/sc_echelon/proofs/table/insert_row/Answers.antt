use Rattle.std.proofs.Common.{◌≡◌, true, length, get_or, set, refl, ◌∙◌, ap, arith}
use Rattle.std.proofs.lemmas.List.{length-map}
use Rattle.std.proofs.lemmas.List.Elements.{All-set}
use Rattle.sc_field.specs.FieldLemmas.{inv_mul}
use Rattle.sc_matrix.proofs.VectorLaws.{length-scale_vector}
use Rattle.sc_echelon.specs.Steps.{times_row, insert, led}
use Rattle.sc_echelon.specs.Storage.{table_of}
use Rattle.sc_echelon.specs.Equation.{IsRow}
use Rattle.sc_echelon.specs.Knowledge.{IsBytes, xor_bytes, act_bytes}
use Rattle.sc_echelon.proofs.Bytes.{bytes_module}
use Rattle.sc_echelon.proofs.RowOperations.{entry-times_row}
use Rattle.sc_echelon.proofs.Skipped.{HasRows-same}
use Rattle.sc_echelon.proofs.StorageLaws.{table_of-insert}
use Rattle.sc_echelon.proofs.table.insert_row.Goals as goal

pub returns-clause-table : goal.returns-clause-table
returns-clause-table g c =
    let zero = g.F.Field.zero in
    let add = g.F.Field.add in
    let sub = g.F.Field.sub in
    let mul = g.F.Field.mul in
    let inv = g.F.Field.inv in
    let act = act_bytes g.F.Field.act in
    let p = c.args.p in
    let used = c.args.used.now in
    let old = c.args.rows.now in
    let q = c.multiply.new.self in
    let new = c.clear_column.new.rows in
    let is_led : q ≡ led zero mul inv act p c.args.work.now = c.multiply.ensures ∙ ap (λ x. times_row mul act x c.args.work.now) (c.inv.ensures.value ∙ ap inv c.coeff-lead.ensures.value) in
    ap (λ r. table_of (set used p true) (set new p r)) c.swap.ensures.x_after
    ∙ table_of-insert zero add sub mul xor_bytes act used old new (length used) p q c.requires.count (omega arith) c.clear_column.ensures.cleared
    ∙ ap (λ r. insert zero add sub mul xor_bytes act p r (table_of used old)) is_led

pub returns-clause-widths : goal.returns-clause-widths
returns-clause-widths g c =
    let same : length c.multiply.new.self.coeffs ≡ length c.args.work.now.coeffs = ap (λ r. length r.coeffs) c.multiply.ensures ∙ length-scale_vector g.F.Field.mul c.inv.result c.args.work.now.coeffs in
    All-set (λ r. length r.coeffs ≡ length c.args.work.now.coeffs) c.clear_column.new.rows c.args.p c.swap.new.x (ap (λ r. length r.coeffs) c.swap.ensures.x_after ∙ same)
    (λ k d l. c.clear_column.ensures.widths k d l ∙ same)

pub returns-clause-rights : goal.returns-clause-rights
returns-clause-rights g c =
    let same : length c.multiply.new.self.right ≡ length c.args.work.now.right = ap (λ r. length r.right) c.multiply.ensures ∙ length-map c.args.work.now.right (g.F.Field.act c.inv.result) in
    All-set (λ r. length r.right ≡ length c.args.work.now.right) c.clear_column.new.rows c.args.p c.swap.new.x (ap (λ r. length r.right) c.swap.ensures.x_after ∙ same)
    (λ k d l. c.clear_column.ensures.rights k d l ∙ same)

pub clear_column-requires-clause-elements : goal.clear_column-requires-clause-elements
clear_column-requires-clause-elements g c =
    let work = c.args.work.now in
    HasRows-same c.args.used.now c.args.rows.now (length c.multiply.new.self.coeffs) (length c.multiply.new.self.right)
    (ap (λ r. length r.coeffs) c.multiply.ensures ∙ length-scale_vector g.F.Field.mul c.inv.result work.coeffs)
    (ap (λ r. length r.right) c.multiply.ensures ∙ length-map work.right (g.F.Field.act c.inv.result)) c.requires.elements

-- the row is led by a one
pub clear_column-requires-clause-one : goal.clear_column-requires-clause-one
clear_column-requires-clause-one g c =
    let F = g.F.Field in
    let work = c.args.work.now in
    let p = c.args.p in
    let x = c.inv.result in
    let h : IsRow F.IsElement (IsBytes (length work.right)) (length work.coeffs) work =
    record { width = refl; elements = c.known.ensures.elements; value = record { width = refl; entries = c.known.ensures.bytes } } in
    let inverse : x ≡ F.inv (get_or work.coeffs p F.zero) = c.inv.ensures.value ∙ ap F.inv c.coeff-lead.ensures.value in
    let size = c.requires.width in
    let inside = c.requires.p_in in
    ap (λ r. get_or r.coeffs p F.zero) c.multiply.ensures
    ∙ entry-times_row g.met.F.Field.field (bytes_module g.met.F.Field.action (length work.right)) (length work.coeffs) work x p h (omega arith)
    ∙ ap (λ y. F.mul y (get_or work.coeffs p F.zero)) inverse
    ∙ inv_mul g.met.F.Field.field (get_or work.coeffs p F.zero) (c.known.ensures.elements p F.zero (omega arith)) c.requires.lead
