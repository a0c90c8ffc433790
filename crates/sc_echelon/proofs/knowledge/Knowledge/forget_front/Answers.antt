use Rattle.std.proofs.Common.{◌≡◌, length, sym, subst, ◌∙◌, ap, ap₂}
use Rattle.std.proofs.lemmas.List.{with_items_is}
use Rattle.std.specs.Vec.{with_items}
use Rattle.sc_echelon.specs.Kept.{known_by}
use Rattle.sc_echelon.specs.Storage.{table_of}
use Rattle.sc_echelon.specs.Knowledge.{Forgets}
use Rattle.sc_echelon.proofs.knowledge.Knowledge.forget_front.Goals as goal

pub returns-clause-solutions : goal.returns-clause-solutions
returns-clause-solutions g c =
    let act = g.F.Field.act in
    let w = c.self.inside.width in
    let u = c.as_mut_slice-2.result.now in
    let r = c.as_mut_slice.result.now in
    let nu = c.forget_rows.new.used in
    let nr = c.forget_rows.new.rows in
    let iu = (with_items c.self.inside.used nu).items in
    let ir = (with_items c.self.inside.rows nr).items in
    let is_u : iu ≡ nu = with_items_is c.self.inside.used nu (c.forget_rows.ensures.flags ∙ c.as_mut_slice-2.ensures.len) in
    let is_r : ir ≡ nr = with_items_is c.self.inside.rows nr (c.forget_rows.auto.rows ∙ c.as_mut_slice.ensures.len) in
    let was : known_by (length u) w (table_of u r) ≡ c.args.self.now =
    ap₂ (λ fs rs. known_by (length fs) w (table_of fs rs)) c.as_mut_slice-2.ensures.value c.as_mut_slice.ensures.value ∙ c.self.view_is in
    let is : known_by (length u) w (table_of nu nr) ≡ known_by (length iu) w (table_of iu ir) =
    ap (λ k. known_by k w (table_of nu nr)) (sym c.forget_rows.ensures.flags) ∙ ap₂ (λ fs rs. known_by (length fs) w (table_of fs rs)) (sym is_u) (sym is_r) in
    subst (λ k. Forgets act c.args.count k (known_by (length iu) w (table_of iu ir))) was
    (subst (λ k. Forgets act c.args.count (known_by (length u) w (table_of u r)) k) is c.forget_rows.ensures.solutions)
