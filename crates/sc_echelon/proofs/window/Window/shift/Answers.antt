use Rattle.std.proofs.Common.{ℕ, ◌+◌, ◌≤◌, List, ◌++◌, length, take, drop, replicate, sym, ap, ◌∙◌, subst, arith}
use Rattle.sc_matrix.proofs.LayoutLaws.{items_written}
use Rattle.sc_echelon.specs.Window.{IsWindow}
use Rattle.sc_echelon.proofs.WindowSteps.{later, later_is, moved, moved_is, moved_long, window_long}
use Rattle.sc_echelon.proofs.window.Window.shift.Goals as goal

pub invariant_of-self : goal.invariant_of-self
invariant_of-self c =
    let e = c.self.inside in
    let long = window_long e.count e.from e.bytes.items c.self.invariant in
    let within = c.self.invariant.within in
    let size = c.len.ensures in
    let room : c.args.count ≤ length (take e.count (drop e.from e.bytes.items)) = subst (λ (x : List ℕ). c.args.count ≤ length x) (sym c.self.view_is) c.requires in
    later_is e.count e.from e.bytes.items c.self.invariant c.args.count (omega arith) (omega (arith, c.if-from-len.true))

pub returns-then-from-len : goal.returns-then-from-len
returns-then-from-len c =
    let e = c.self.inside in
    let long = window_long e.count e.from e.bytes.items c.self.invariant in
    let within = c.self.invariant.within in
    let size = c.len.ensures in
    let room : c.args.count ≤ length (take e.count (drop e.from e.bytes.items)) = subst (λ (x : List ℕ). c.args.count ≤ length x) (sym c.self.view_is) c.requires in
    later e.count e.from e.bytes.items c.self.invariant c.args.count (omega arith) (omega (arith, c.if-from-len.true)) ∙ ap (λ (x : List ℕ). drop c.args.count x ++ replicate c.args.count 0) c.self.view_is

pub invariant_of-self-else-from-len : goal.invariant_of-self-else-from-len
invariant_of-self-else-from-len c =
    let e = c.self.inside in
    let long = window_long e.count e.from e.bytes.items c.self.invariant in
    let room : c.args.count ≤ length (take e.count (drop e.from e.bytes.items)) = subst (λ (x : List ℕ). c.args.count ≤ length x) (sym c.self.view_is) c.requires in
    let is = c.shift_down.ensures ∙ ap (λ (x : List ℕ). drop (e.from + c.args.count) x ++ replicate (e.from + c.args.count) 0) c.as_mut_slice.ensures.value in
    let items = items_written e.bytes c.shift_down.new.bytes (ap length is ∙ moved_long e.count e.from e.bytes.items c.self.invariant c.args.count (omega arith)) ∙ is in
    subst (λ (x : List ℕ). IsWindow e.count 0 x) (sym items) (moved_is e.count e.from e.bytes.items c.self.invariant c.args.count (omega arith))

pub returns-else-from-len : goal.returns-else-from-len
returns-else-from-len c =
    let e = c.self.inside in
    let long = window_long e.count e.from e.bytes.items c.self.invariant in
    let room : c.args.count ≤ length (take e.count (drop e.from e.bytes.items)) = subst (λ (x : List ℕ). c.args.count ≤ length x) (sym c.self.view_is) c.requires in
    let is = c.shift_down.ensures ∙ ap (λ (x : List ℕ). drop (e.from + c.args.count) x ++ replicate (e.from + c.args.count) 0) c.as_mut_slice.ensures.value in
    let items = items_written e.bytes c.shift_down.new.bytes (ap length is ∙ moved_long e.count e.from e.bytes.items c.self.invariant c.args.count (omega arith)) ∙ is in
    ap (take e.count) items ∙ moved e.count e.from e.bytes.items c.self.invariant c.args.count (omega arith) ∙ ap (λ (x : List ℕ). drop c.args.count x ++ replicate c.args.count 0) c.self.view_is
