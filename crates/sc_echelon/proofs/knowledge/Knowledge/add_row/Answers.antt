use Rattle.std.proofs.Common.{◌≡◌, ℕ, List, length, sym, subst, ◌∙◌, ap, ap₂}
use Rattle.std.proofs.lemmas.List.{with_items_is}
use Rattle.std.specs.Vec.{with_items}
use Rattle.sc_echelon.specs.Equation.{Row}
use Rattle.sc_echelon.specs.Kept.{known_by}
use Rattle.sc_echelon.specs.Storage.{table_of}
use Rattle.sc_echelon.specs.Knowledge.{Adds}
use Rattle.sc_echelon.proofs.knowledge.Knowledge.add_row.Goals as goal

pub returns-clause-adds : goal.returns-clause-adds
returns-clause-adds g c = λ e.
    let act = g.F.Field.act in
    let w = c.self.inside.width in
    let u = c.as_mut_slice-2.result.now in
    let r = c.as_mut_slice.result.now in
    let nu = c.add_work.new.used in
    let nr = c.add_work.new.rows in
    let iu = (with_items c.self.inside.used nu).items in
    let ir = (with_items c.self.inside.rows nr).items in
    let is_u : iu ≡ nu = with_items_is c.self.inside.used nu (c.add_work.ensures.flags ∙ c.as_mut_slice-2.ensures.len) in
    let is_r : ir ≡ nr = with_items_is c.self.inside.rows nr (c.add_work.auto.rows ∙ c.as_mut_slice.ensures.len) in
    let was : known_by (length u) w (table_of u r) ≡ c.args.self.now =
    ap₂ (λ fs rs. known_by (length fs) w (table_of fs rs)) c.as_mut_slice-2.ensures.value c.as_mut_slice.ensures.value ∙ c.self.view_is in
    let is : known_by (length u) w (table_of nu nr) ≡ known_by (length iu) w (table_of iu ir) =
    ap (λ k. known_by k w (table_of nu nr)) (sym c.add_work.ensures.flags) ∙ ap₂ (λ fs rs. known_by (length fs) w (table_of fs rs)) (sym is_u) (sym is_r) in
    let row : Row g.row.F.Denot (List ℕ) = record { coeffs = c.args.coeffs.now; right = c.args.rhs.now } in
    subst (λ k. Adds act k row (known_by (length iu) w (table_of iu ir))) was
    (subst (λ k. Adds act (known_by (length u) w (table_of u r)) row k) is
    (subst (λ q. Adds act (known_by (length u) w (table_of u r)) q (known_by (length u) w (table_of nu nr))) c.load.ensures.value (c.add_work.ensures.adds e)))

pub returns-clause-stays : goal.returns-clause-stays
returns-clause-stays g c = λ e.
    let w = c.self.inside.width in
    let u = c.as_mut_slice-2.result.now in
    let r = c.as_mut_slice.result.now in
    let nu = c.add_work.new.used in
    let nr = c.add_work.new.rows in
    let is_u = with_items_is c.self.inside.used nu (c.add_work.ensures.flags ∙ c.as_mut_slice-2.ensures.len) in
    let is_r = with_items_is c.self.inside.rows nr (c.add_work.auto.rows ∙ c.as_mut_slice.ensures.len) in
    ap₂ (λ fs rs. known_by (length fs) w (table_of fs rs)) is_u is_r ∙ ap (λ k. known_by k w (table_of nu nr)) c.add_work.ensures.flags
    ∙ ap (known_by (length u) w) (c.add_work.ensures.stays e)
    ∙ ap₂ (λ fs rs. known_by (length fs) w (table_of fs rs)) c.as_mut_slice-2.ensures.value c.as_mut_slice.ensures.value ∙ c.self.view_is
