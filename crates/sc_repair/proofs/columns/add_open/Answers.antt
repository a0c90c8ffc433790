use Rattle.std.proofs.Common.{◌≡◌, sym, ap, ◌∙◌}
use Rattle.sc_echelon.specs.Knowledge.{zero_bytes}
use Rattle.sc_repair.proofs.ColumnSteps.{zero_says, columns_less}
use Rattle.sc_repair.proofs.columns.add_open.Goals as goal

pub add_touched-requires-clause-columns : goal.add_touched-requires-clause-columns
add_touched-requires-clause-columns c =
    let h = c.requires.columns in
    columns_less c.args.known.now c.args.whole.now c.args.free.now c.touch.new.free c.args.bytes.now h c.touch.ensures.count (λ i e f. c.touch.ensures.kept i f (c.requires.out i e)) (λ i e. (c.touch.ensures.free i e).0)

pub returns-then-not-touch-clause-learns : goal.returns-then-not-touch-clause-learns
returns-then-not-touch-clause-learns c yes' symbols =
    let known = c.args.known.now in
    let row = c.args.row.now in
    let sum = c.args.sum.now in
    let none : zero_bytes known.width ≡ sum = sym (c.is_zero.ensures.yes yes' ∙ ap zero_bytes c.requires.sum) in (
      λ s. (s, (zero_says known.width row sum symbols c.requires.elements s.values.entries (c.touch.ensures.none c.if-not-touch.true)).1 none),
      λ s. s.0,
    )

pub returns-then-not-touch-clause-refuses : goal.returns-then-not-touch-clause-refuses
returns-then-not-touch-clause-refuses c no' symbols s g =
    let known = c.args.known.now in
    let row = c.args.row.now in
    let sum = c.args.sum.now in
    let none : zero_bytes known.width ≡ sum = (zero_says known.width row sum symbols c.requires.elements s.values.entries (c.touch.ensures.none c.if-not-touch.true)).0 g in
    c.is_zero.ensures.no no' (sym none ∙ ap zero_bytes (sym c.requires.sum))
