use Rattle.std.proofs.Common.{ℕ, ◌+◌, ◌-◌, List, length, take, drop, sym, ap, ◌∙◌, subst}
use borrow.Rule.Slice.PartMut.{put_mid}
use Rattle.sc_field.specs.ActionLemmas.{act_zero}
use Rattle.sc_field.specs.Scale.{scaled_sum}
use Rattle.sc_matrix.proofs.LayoutLaws.{items_written}
use Rattle.sc_echelon.specs.Touched.{IsTouched}
use Rattle.sc_echelon.specs.Window.{IsWindow}
use Rattle.sc_echelon.proofs.Touched.{IsTouched-wider}
use Rattle.sc_echelon.proofs.WindowSteps.{window_long}
use Rattle.sc_echelon.proofs.WindowTouched.{add_written, add_all, window_after, window_kept, long_after}
use Rattle.sc_echelon.proofs.window.Window.add_between.Goals as goal

pub invariant_of-self : goal.invariant_of-self
invariant_of-self g c =
    let e = c.self.inside in
    let f = g.F.Field.act c.args.by.now.coefficient in
    let first = c.whole_from-first.result in
    let last = c.whole_end-last.result in
    let touched : IsTouched first last c.args.src.now = IsTouched-wider c.args.src.now c.args.from c.args.end first last c.whole_from-first.ensures c.whole_end-last.ensures.order c.whole_end-last.ensures.within c.requires.touched in
    let v = take (last - first) (drop first c.args.src.now) in
    let size = c.requires.size ∙ ap length (sym c.self.view_is) ∙ window_long e.count e.from e.bytes.items c.self.invariant in
    let is = c.add_part.ensures.value ∙ ap (λ (x : List ℕ). put_mid (e.from + first) (length v) x (scaled_sum f (take (length v) (drop (e.from + first) x)) v)) c.as_mut_slice.ensures.value in
    let w = add_written e.count e.from e.bytes.items c.self.invariant f first last c.args.src.now size touched c.add_part.new.bytes is in
    subst (IsWindow e.count e.from) (sym (items_written e.bytes c.add_part.new.bytes (long_after c.self.invariant w))) (window_kept c.self.invariant w)

pub returns-clause-value : goal.returns-clause-value
returns-clause-value g c =
    let e = c.self.inside in
    let f = g.F.Field.act c.args.by.now.coefficient in
    let first = c.whole_from-first.result in
    let last = c.whole_end-last.result in
    let touched : IsTouched first last c.args.src.now = IsTouched-wider c.args.src.now c.args.from c.args.end first last c.whole_from-first.ensures c.whole_end-last.ensures.order c.whole_end-last.ensures.within c.requires.touched in
    let v = take (last - first) (drop first c.args.src.now) in
    let size = c.requires.size ∙ ap length (sym c.self.view_is) ∙ window_long e.count e.from e.bytes.items c.self.invariant in
    let is = c.add_part.ensures.value ∙ ap (λ (x : List ℕ). put_mid (e.from + first) (length v) x (scaled_sum f (take (length v) (drop (e.from + first) x)) v)) c.as_mut_slice.ensures.value in
    let w = add_written e.count e.from e.bytes.items c.self.invariant f first last c.args.src.now size touched c.add_part.new.bytes is in
    ap (λ (x : List ℕ). take e.count (drop e.from x)) (items_written e.bytes c.add_part.new.bytes (long_after c.self.invariant w))
    ∙ window_after c.self.invariant w
    ∙ add_all e.count e.from e.bytes.items c.self.invariant f first last c.args.src.now size touched (act_zero g.met.F.Field.field g.met.F.Field.action c.args.by.now.coefficient c.known.ensures)
    ∙ ap (λ (x : List ℕ). scaled_sum f x c.args.src.now) c.self.view_is
