use Rattle.std.proofs.Common.{◌≡◌, length, map, sym, ◌∙◌, ap, ap₂}
use Rattle.std.proofs.lemmas.List.Elements.{All-same}
use Rattle.sc_field.specs.Field.{IsNumber}
use Rattle.sc_matrix.specs.Vector.{add_vectors, scale_vector}
use Rattle.sc_matrix.proofs.ByteSteps.{scaled_sum_is}
use Rattle.sc_echelon.specs.Knowledge.{xor_bytes, act_bytes}
use Rattle.sc_echelon.proofs.NumberRows.{elements_added, size_of, same_row}
use Rattle.sc_echelon.proofs.equation.Equation.add_multiple.Goals as goal

pub returns-then-adds_nothing : goal.returns-then-adds_nothing
returns-then-adds_nothing g c =
    let add = g.F.Field.add in
    let mul = g.F.Field.mul in
    let act = g.F.Field.act in
    let element = g.F.Field.element in
    let Number = IsNumber g.F.Field.IsElement g.F.Field.number element in
    let k = c.args.c in
    let us = c.as_slice.result.now in
    let vs = c.as_slice-2.result.now in
    let a = size_of element c.self.inside.numbers c.args.self.now.coeffs (ap (λ r. r.coeffs) c.self.view_is) in
    let b = size_of element c.other.inside.numbers c.args.other.now.coeffs (ap (λ r. r.coeffs) c.other.view_is) in
    let same : length vs ≡ length us = ap length c.as_slice-2.ensures ∙ sym b ∙ sym c.requires.coeffs ∙ a ∙ sym (ap length c.as_slice.ensures) in
    let mine : map element us ≡ c.args.self.now.coeffs = ap (map element) c.as_slice.ensures ∙ ap (λ r. r.coeffs) c.self.view_is in
    let others : map element vs ≡ c.args.other.now.coeffs = ap (map element) c.as_slice-2.ensures ∙ ap (λ r. r.coeffs) c.other.view_is in
    let my_right : c.as_slice-3.result.now ≡ c.args.self.now.right = c.as_slice-3.ensures.value ∙ ap (λ r. r.right) c.self.view_is in
    let other_right : c.as_slice-4.result.now ≡ c.args.other.now.right = c.as_slice-4.ensures.value ∙ ap (λ r. r.right) c.other.view_is in
    let same_right : length c.as_slice-4.result.now ≡ length c.as_slice-3.result.now = ap length other_right ∙ sym c.requires.right ∙ sym (ap length my_right) in
    same_row _ _ _ _
    (sym mine ∙ ap (map element) (c.adds_nothing.ensures.first c.if-adds_nothing.true)
    ∙ elements_added g.met.F.Field.field g.met.F.Field.action g.met.F.Field.numbered g.met.F.Field.by_number us vs k c.known.ensures same
    (All-same Number _ _ c.as_slice.ensures c.self.invariant.all) (All-same Number _ _ c.as_slice-2.ensures c.other.invariant.all)
    ∙ ap₂ (λ x y. add_vectors add x (scale_vector mul k y)) mine others)
    (sym my_right ∙ c.adds_nothing.ensures.second c.if-adds_nothing.true
    ∙ scaled_sum_is (act k) c.as_slice-3.result.now c.as_slice-4.result.now same_right
    ∙ ap₂ (λ x y. xor_bytes x (act_bytes act k y)) my_right other_right)
