use Rattle.std.proofs.Common.{◌++◌, ◌+◌, ◌*◌, ℕ, List, map, drop, sym, ap, ap₂, ◌∙◌, arith}
use Rattle.sc_channel.specs.Flags.{set_count}
use Rattle.sc_window.specs.Window.{symbols_of, spelled}
use Rattle.sc_window.proofs.StreamSteps.{left_lost, left_kept, numbers_lost, numbers_kept, numbers_all}
use Rattle.sc_window.proofs.decide.spell.Goals as goal
use Rattle.sc_window.proofs.decide.spell.Goals.{then-class-t+in_ok-push_numbers, else-class-t+in_ok-push_zeros}

pub loop-t-preserved : goal.loop-t-preserved
loop-t-preserved g c =
    let zero = g.F.Field.zero in
    let number = g.F.Field.number in
    let class = c.args.class.now in
    let v = c.args.vector.now in
    let k = c.args.k in
    let t = c.loop-t.t in
    let whole = map number (symbols_of (spelled zero k class v)) in
    let rest = λ (from : ℕ). map number (symbols_of (spelled zero k (drop (t + 1) class) (drop from v))) in
    let invariant = c.loop-t.invariant in
    elim c.if-class-t.branch [
      | then-class-t+in_ok-push_numbers w ↦ record {
        left = left_lost k t class _ c.loop-t.from c.loop-t-test.true invariant.left w.if-class-t.true ∙ ap (λ (from : ℕ). from + k * set_count (drop (t + 1) class)) (sym w.from-is);
        numbers =
            ap₂ (λ (ns : List ℕ) (from : ℕ). ns ++ rest from) (ap (λ ns. ns.items) w.numbers-is ∙ w.in_ok-push_numbers.ensures) w.from-is
            ∙ numbers_lost zero number k t c.loop-t.from class v c.loop-t.numbers.items whole c.loop-t-test.true invariant.numbers w.if-class-t.true;
      }
      | else-class-t+in_ok-push_zeros w ↦ record {
        left = left_kept k t class _ c.loop-t.from c.loop-t-test.true invariant.left w.if-class-t.false ∙ ap (λ (from : ℕ). from + k * set_count (drop (t + 1) class)) (sym w.from-is);
        numbers =
            ap₂ (λ (ns : List ℕ) (from : ℕ). ns ++ rest from) (ap (λ ns. ns.items) w.numbers-is ∙ w.in_ok-push_zeros.ensures) w.from-is
            ∙ numbers_kept zero number k t c.loop-t.from class v c.loop-t.numbers.items whole c.loop-t-test.true invariant.numbers w.if-class-t.false;
      }
    ]

pub returns : goal.returns
returns g c =
    numbers_all g.F.Field.zero g.F.Field.number c.args.k c.loop-t.t c.args.class.now _ c.loop-t.numbers.items _ (omega arith) c.loop-t.invariant.numbers
