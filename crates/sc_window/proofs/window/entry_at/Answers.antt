use Rattle.std.proofs.Common.{◌≡◌, sym, ap, ◌∙◌, arith}
use Rattle.sc_window.proofs.RowSteps.{entry-within, entry-later, entry-past}
use Rattle.sc_window.proofs.window.entry_at.Goals as goal
use Rattle.sc_window.proofs.window.entry_at.Goals.{then-s-t-via-then-s-t, then-s-t-via-else-s-t+then-t-s}

pub returns-then-s-t : goal.returns-then-s-t
returns-then-s-t g c =
    let zero = g.F.Field.zero in
    let none : c.number.result ≡ g.F.Field.number zero = c.number.ensures ∙ ap g.F.Field.number c.zero.ensures.value in
    none ∙ ap g.F.Field.number (sym
    (elim c.then-s-t.branch [
      | then-s-t-via-then-s-t w ↦ entry-later zero c.args.code.now c.args.t c.args.j c.args.s c.args.i w.if-s-t.true
      | then-s-t-via-else-s-t+then-t-s w ↦ entry-past zero c.args.code.now c.args.t c.args.j c.args.s c.args.i w.if-s-t.false (omega (arith, w.memory.ensures.number, w.if-t-s.true))
    ]))

pub returns : goal.returns
returns g c =
    c.number-2.ensures
    ∙ ap g.F.Field.number (c.coefficient.ensures.value ∙ sym (entry-within g.F.Field.zero c.args.code.now c.args.t c.args.j c.args.s c.args.i c.if-s-t.false))
