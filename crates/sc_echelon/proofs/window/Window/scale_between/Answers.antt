use Rattle.std.proofs.Common.{ℕ, ◌+◌, ◌-◌, List, map, take, drop, sym, ap, ◌∙◌, subst}
use borrow.Rule.Slice.PartMut.{put_mid}
use Rattle.sc_field.specs.ActionLemmas.{act_zero}
use Rattle.sc_matrix.proofs.LayoutLaws.{items_written}
use Rattle.sc_echelon.specs.Touched.{IsTouched}
use Rattle.sc_echelon.specs.Window.{IsWindow}
use Rattle.sc_echelon.proofs.WindowTouched.{scale_written, scale_all, window_after, window_kept, long_after}
use Rattle.sc_echelon.proofs.window.Window.scale_between.Goals as goal

pub invariant_of-self : goal.invariant_of-self
invariant_of-self g c =
    let e = c.self.inside in
    let f = g.F.Field.act c.args.by.now.coefficient in
    let k = c.args.end - c.args.from in
    let touched : IsTouched c.args.from c.args.end (take e.count (drop e.from e.bytes.items)) = subst (IsTouched c.args.from c.args.end) (sym c.self.view_is) c.requires in
    let is = c.scale_part.ensures ∙ ap (λ (x : List ℕ). put_mid (e.from + c.args.from) k x (map f (take k (drop (e.from + c.args.from) x)))) c.as_mut_slice.ensures.value in
    let w = scale_written e.count e.from e.bytes.items c.self.invariant f c.args.from c.args.end touched c.scale_part.new.bytes is in
    subst (IsWindow e.count e.from) (sym (items_written e.bytes c.scale_part.new.bytes (long_after c.self.invariant w))) (window_kept c.self.invariant w)

pub returns : goal.returns
returns g c =
    let e = c.self.inside in
    let f = g.F.Field.act c.args.by.now.coefficient in
    let k = c.args.end - c.args.from in
    let touched : IsTouched c.args.from c.args.end (take e.count (drop e.from e.bytes.items)) = subst (IsTouched c.args.from c.args.end) (sym c.self.view_is) c.requires in
    let is = c.scale_part.ensures ∙ ap (λ (x : List ℕ). put_mid (e.from + c.args.from) k x (map f (take k (drop (e.from + c.args.from) x)))) c.as_mut_slice.ensures.value in
    let w = scale_written e.count e.from e.bytes.items c.self.invariant f c.args.from c.args.end touched c.scale_part.new.bytes is in
    ap (λ (x : List ℕ). take e.count (drop e.from x)) (items_written e.bytes c.scale_part.new.bytes (long_after c.self.invariant w))
    ∙ window_after c.self.invariant w
    ∙ scale_all e.count e.from e.bytes.items c.self.invariant f c.args.from c.args.end touched (act_zero g.met.F.Field.field g.met.F.Field.action c.args.by.now.coefficient c.known.ensures)
    ∙ ap (map f) c.self.view_is
