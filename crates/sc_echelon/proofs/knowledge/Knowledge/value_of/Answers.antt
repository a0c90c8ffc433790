use Rattle.std.proofs.Common.{◌≡◌, ◌<◌, true, false, Some, length, get_or, sym, subst, ◌∙◌, ap, arith}
use Rattle.std.proofs.lemmas.List.{get_or_default}
use Rattle.sc_echelon.specs.Table.{slot}
use Rattle.sc_echelon.specs.Storage.{table_of}
use Rattle.sc_echelon.specs.Knowledge.{IsOpenAt, IsValueAt}
use Rattle.sc_echelon.proofs.StoredSteps.{slot_on, slot_off}
use Rattle.sc_echelon.proofs.KnowledgeLaws.{value_known, open_free, open_mixed}
use Rattle.sc_echelon.proofs.knowledge.Knowledge.value_of.Goals as goal

pub returns-then-not-index : goal.returns-then-not-index
returns-then-not-index g c =
    let used = c.self.inside.used.items in
    let rows = c.self.inside.rows.items in
    let cols : length used ≡ c.args.self.now.cols = ap (λ k. k.cols) c.self.view_is in
    let within : c.args.col < length used = omega arith in
    let off : get_or used c.args.col false ≡ false = get_or_default used c.args.col false c.index.result.now within ∙ sym c.index.ensures ∙ c.if-not-index.true in
    subst (λ k. IsOpenAt g.F.Field.act k c.args.col) c.self.view_is
    (open_free g.met.F.Field.field g.met.F.Field.action (length used) c.self.inside.width (table_of used rows) c.self.invariant.kept c.self.invariant.some c.args.col within
    (slot_off used rows c.self.invariant.count c.args.col c.self.inside.work within off))

pub returns-in-Some : goal.returns-in-Some
returns-in-Some g c =
    let used = c.self.inside.used.items in
    let rows = c.self.inside.rows.items in
    let r = c.index-row.result.now in
    let cols : length used ≡ c.args.self.now.cols = ap (λ k. k.cols) c.self.view_is in
    let within : c.args.col < length used = omega arith in
    let on : get_or used c.args.col false ≡ true = get_or_default used c.args.col false c.index.result.now within ∙ sym c.index.ensures ∙ c.if-not-index.false in
    let full : slot (table_of used rows) c.args.col ≡ Some r = slot_on used rows c.self.invariant.count c.args.col r within on c.index-row.ensures in
    let width : length r.coeffs ≡ length used = (c.self.invariant.kept.reduced.rows c.args.col r full).width in
    let found : c.in-Some._other < length r.coeffs = c.in-Some.ensures.0 in
    subst (λ k. IsOpenAt g.F.Field.act k c.args.col) c.self.view_is
    (open_mixed g.met.F.Field.field g.met.F.Field.action (length used) c.self.inside.width (table_of used rows) c.self.invariant.kept c.self.invariant.some c.args.col r
    c.in-Some._other full (omega arith) c.in-Some.ensures.1 c.in-Some.ensures.2)

pub returns-in-None : goal.returns-in-None
returns-in-None g c =
    let used = c.self.inside.used.items in
    let rows = c.self.inside.rows.items in
    let r = c.index-row.result.now in
    let cols : length used ≡ c.args.self.now.cols = ap (λ k. k.cols) c.self.view_is in
    let within : c.args.col < length used = omega arith in
    let on : get_or used c.args.col false ≡ true = get_or_default used c.args.col false c.index.result.now within ∙ sym c.index.ensures ∙ c.if-not-index.false in
    let full : slot (table_of used rows) c.args.col ≡ Some r = slot_on used rows c.self.invariant.count c.args.col r within on c.index-row.ensures in
    let right : c.right.result.now ≡ r.right = c.right.ensures in
    let width : length r.coeffs ≡ length used = (c.self.invariant.kept.reduced.rows c.args.col r full).width in
    subst (λ b. IsValueAt g.F.Field.act c.args.self.now c.args.col b) (sym right)
    (subst (λ k. IsValueAt g.F.Field.act k c.args.col r.right) c.self.view_is
    (value_known g.met.F.Field.field g.met.F.Field.action (length used) c.self.inside.width (table_of used rows) c.self.invariant.kept c.args.col r full
    (λ j l ne. c.in-None.ensures j (omega arith) ne)))
