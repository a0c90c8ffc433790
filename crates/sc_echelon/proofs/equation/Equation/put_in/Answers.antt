use Rattle.std.proofs.Common.{◌≡◌, length, map, set, refl, sym, ◌∙◌, ap, ap₂}
use Rattle.std.proofs.lemmas.List.{with_items_is, map-set}
use Rattle.sc_matrix.proofs.ByteSteps.{scaled_sum_is}
use Rattle.sc_echelon.specs.Equation.{IsRow}
use Rattle.sc_echelon.specs.Knowledge.{IsBytes, xor_bytes, act_bytes}
use Rattle.sc_echelon.proofs.Bytes.{bytes_module}
use Rattle.sc_echelon.proofs.NumberRows.{same_row}
use Rattle.sc_echelon.proofs.Skipped.{coeffs-cleared_lone}
use Rattle.sc_echelon.proofs.equation.Equation.put_in.Goals as goal

pub returns : goal.returns
returns g c =
    let F = g.F.Field in
    let r = c.args.self.now in
    let q = c.args.value.now in
    let p = c.args.col in
    let w = length r.right in
    let factor = c.get.ensures ∙ c.sub-factor.ensures.value ∙ ap₂ F.sub c.zero.ensures.value c.coeff.ensures.value in
    let nothing : F.element 0 ≡ F.zero = ap F.element (sym g.met.F.Field.numbered.of_zero) ∙ g.met.F.Field.numbered.element_number F.zero g.met.F.Field.field.zero_element in
    let hr : IsRow F.IsElement (IsBytes w) (length r.coeffs) r = record { width = refl; elements = c.known.ensures.elements; value = record { width = refl; entries = c.known.ensures.bytes } } in
    let hq : IsRow F.IsElement (IsBytes w) (length r.coeffs) q = record { width = sym c.requires.coeffs; elements = c.known-2.ensures.elements; value = record { width = sym c.requires.right; entries = c.known-2.ensures.bytes } } in
    let my_right : c.as_mut_slice.result.now ≡ r.right = c.as_mut_slice.ensures.value ∙ ap (λ s. s.right) c.self.view_is in
    let other_right : c.as_slice.result.now ≡ q.right = c.as_slice.ensures.value ∙ ap (λ s. s.right) c.value.view_is in
    let same_right : length c.as_slice.result.now ≡ length c.as_mut_slice.result.now = ap length other_right ∙ sym c.requires.right ∙ sym (ap length my_right) in
    same_row _ _ _ _
    (ap (map F.element) c.clear.ensures ∙ map-set F.element c.self.inside.numbers p 0 ∙ ap₂ (λ xs x. set xs p x) (ap (λ s. s.coeffs) c.self.view_is) nothing
    ∙ sym (coeffs-cleared_lone g.met.F.Field.field (bytes_module g.met.F.Field.action w) (length r.coeffs) r q p hr hq c.requires.col c.requires.one c.requires.zeros))
    (with_items_is c.self.inside.right c.scale_add.new.dst (c.scale_add.auto.dst ∙ c.as_mut_slice.ensures.len) ∙ c.scale_add.ensures
    ∙ scaled_sum_is (F.act c.get.result.now.coefficient) c.as_mut_slice.result.now c.as_slice.result.now same_right
    ∙ ap₂ (λ x y. xor_bytes x (act_bytes F.act c.get.result.now.coefficient y)) my_right other_right
    ∙ ap (λ k. xor_bytes r.right (act_bytes F.act k q.right)) factor)
