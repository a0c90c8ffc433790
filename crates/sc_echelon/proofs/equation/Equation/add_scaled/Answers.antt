use Rattle.std.proofs.Common.{◌≡◌, length, map, min, subst, sym, ◌∙◌, ap, ap₂}
use Rattle.std.proofs.lemmas.List.{with_items_is}
use Rattle.sc_field.specs.Field.{IsNumber}
use Rattle.sc_matrix.specs.Vector.{add_vectors, scale_vector}
use Rattle.sc_matrix.proofs.ByteSteps.{scaled_sum_is}
use Rattle.sc_echelon.specs.Knowledge.{xor_bytes, act_bytes}
use Rattle.sc_field.specs.ActionLemmas.{act_zero}
use Rattle.sc_field.specs.Scale.{scaled_sum}
use Rattle.sc_echelon.specs.Touched.{IsTouched}
use Rattle.sc_echelon.proofs.Touched.{IsTouchedRow-same, IsTouched-sum}
use Rattle.sc_echelon.proofs.NumberRows.{numbers_added, elements_added, size_of, same_row}
use Rattle.sc_echelon.proofs.equation.Equation.add_scaled.Goals as goal

pub invariant_of-self : goal.invariant_of-self
invariant_of-self g c =
    let element = g.F.Field.element in
    let Number = IsNumber g.F.Field.IsElement g.F.Field.number element in
    let x = c.args.c in
    let us = c.self.inside.numbers in
    let vs = c.other.inside.numbers in
    let a = size_of element us c.args.self.now.coeffs (ap (λ r. r.coeffs) c.self.view_is) in
    let b = size_of element vs c.args.other.now.coeffs (ap (λ r. r.coeffs) c.other.view_is) in
    let same : length vs ≡ length us = sym b ∙ sym c.requires.coeffs ∙ a in
    let from = c.min-self-inside.ensures in
    let end = c.max-self-inside.ensures in
    IsTouchedRow-same Number c.min-self-inside.result c.max-self-inside.result _ (scaled_sum (g.F.Field.act x) us vs)
    (c.add_between.ensures.value ∙ ap₂ (λ y z. scaled_sum (g.F.Field.act y) us z) c.get.ensures c.as_slice.ensures)
    (record {
      all = numbers_added g.met.F.Field.field g.met.F.Field.action g.met.F.Field.numbered g.met.F.Field.by_number us vs x c.known.ensures same c.self.invariant.all c.other.invariant.all;
      touched =
          subst (λ i. IsTouched i c.max-self-inside.result (scaled_sum (g.F.Field.act x) us vs)) (sym from)
          (subst (λ i. IsTouched (min c.self.inside.from c.other.inside.from) i (scaled_sum (g.F.Field.act x) us vs)) (sym end)
          (IsTouched-sum (g.F.Field.act x) us vs c.self.inside.from c.self.inside.end c.other.inside.from c.other.inside.end (act_zero g.met.F.Field.field g.met.F.Field.action x c.known.ensures) same c.self.invariant.touched c.other.invariant.touched));
    })

pub returns : goal.returns
returns g c =
    let add = g.F.Field.add in
    let mul = g.F.Field.mul in
    let act = g.F.Field.act in
    let element = g.F.Field.element in
    let k = c.args.c in
    let us = c.self.inside.numbers in
    let vs = c.other.inside.numbers in
    let a = size_of element us c.args.self.now.coeffs (ap (λ r. r.coeffs) c.self.view_is) in
    let b = size_of element vs c.args.other.now.coeffs (ap (λ r. r.coeffs) c.other.view_is) in
    let same : length vs ≡ length us = sym b ∙ sym c.requires.coeffs ∙ a in
    let my_right : c.as_mut_slice.result.now ≡ c.args.self.now.right = c.as_mut_slice.ensures.value ∙ ap (λ r. r.right) c.self.view_is in
    let other_right : c.as_slice-2.result.now ≡ c.args.other.now.right = c.as_slice-2.ensures.value ∙ ap (λ r. r.right) c.other.view_is in
    let same_right : length c.as_slice-2.result.now ≡ length c.as_mut_slice.result.now = ap length other_right ∙ sym c.requires.right ∙ sym (ap length my_right) in
    same_row _ _ _ _
    (ap (map element) (c.add_between.ensures.value ∙ ap₂ (λ y z. scaled_sum (act y) us z) c.get.ensures c.as_slice.ensures)
    ∙ elements_added g.met.F.Field.field g.met.F.Field.action g.met.F.Field.numbered g.met.F.Field.by_number us vs k c.known.ensures same c.self.invariant.all c.other.invariant.all
    ∙ ap₂ (λ x y. add_vectors add x (scale_vector mul k y)) (ap (λ r. r.coeffs) c.self.view_is) (ap (λ r. r.coeffs) c.other.view_is))
    (with_items_is c.self.inside.right c.add_between.new.right (c.add_between.auto.right ∙ c.as_mut_slice.ensures.len) ∙ c.add_between.ensures.right
    ∙ ap (λ y. scaled_sum (act y) c.as_mut_slice.result.now c.as_slice-2.result.now) c.get.ensures
    ∙ scaled_sum_is (act k) c.as_mut_slice.result.now c.as_slice-2.result.now same_right
    ∙ ap₂ (λ x y. xor_bytes x (act_bytes act k y)) my_right other_right)
