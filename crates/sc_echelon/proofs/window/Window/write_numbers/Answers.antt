use Rattle.std.proofs.Common.{◌≡◌, ℕ, List, length, map, take, drop, sym, ap, ◌∙◌, subst}
use Rattle.std.proofs.lemmas.List.{length-map}
use borrow.Rule.Slice.PartMut.{put_mid}
use Rattle.sc_matrix.proofs.LayoutLaws.{items_written, length-put_mid}
use Rattle.sc_echelon.specs.Window.{IsWindow}
use Rattle.sc_echelon.proofs.WindowSteps.{all_written, all_written_is, window_long}
use Rattle.sc_echelon.proofs.window.Window.write_numbers.Goals as goal

pub invariant_of-self : goal.invariant_of-self
invariant_of-self g c =
    let e = c.self.inside in
    let written = map g.F.Field.number c.args.xs.now in
    let within = c.self.invariant.within in
    let size : length c.args.xs.now ≡ e.count = c.requires ∙ ap length (sym c.self.view_is) ∙ window_long e.count e.from e.bytes.items c.self.invariant in
    let long : length written ≡ e.count = length-map c.args.xs.now g.F.Field.number ∙ size in
    let is = c.write_numbers.ensures.value ∙ ap (λ (x : List ℕ). put_mid e.from (length c.args.xs.now) x written) c.as_mut_slice.ensures.value ∙ ap (λ (n : ℕ). put_mid e.from n e.bytes.items written) size in
    let items = items_written e.bytes c.write_numbers.new.bytes (ap length is ∙ length-put_mid e.from e.count e.bytes.items written within long) ∙ is in
    subst (λ (x : List ℕ). IsWindow e.count e.from x) (sym items) (all_written_is e.count e.from e.bytes.items c.self.invariant written long)

pub returns-clause-value : goal.returns-clause-value
returns-clause-value g c =
    let e = c.self.inside in
    let written = map g.F.Field.number c.args.xs.now in
    let within = c.self.invariant.within in
    let size : length c.args.xs.now ≡ e.count = c.requires ∙ ap length (sym c.self.view_is) ∙ window_long e.count e.from e.bytes.items c.self.invariant in
    let long : length written ≡ e.count = length-map c.args.xs.now g.F.Field.number ∙ size in
    let is = c.write_numbers.ensures.value ∙ ap (λ (x : List ℕ). put_mid e.from (length c.args.xs.now) x written) c.as_mut_slice.ensures.value ∙ ap (λ (n : ℕ). put_mid e.from n e.bytes.items written) size in
    let items = items_written e.bytes c.write_numbers.new.bytes (ap length is ∙ length-put_mid e.from e.count e.bytes.items written within long) ∙ is in
    ap (λ (x : List ℕ). take e.count (drop e.from x)) items ∙ all_written e.count e.from e.bytes.items c.self.invariant written long
