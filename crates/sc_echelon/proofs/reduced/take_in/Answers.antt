use Rattle.std.proofs.Common.{length, refl, sym, ◌∙◌}
use Rattle.sc_echelon.proofs.Skipped.{HasRows-same}
use Rattle.sc_echelon.proofs.StoredReduced.{bare_rows, bare_ones, others_left, nothing_left, form_left, kernel_left}
use Rattle.sc_echelon.proofs.reduced.take_in.Goals as goal

pub returns-in-Some-clause-stored : goal.returns-in-Some-clause-stored
returns-in-Some-clause-stored g c = record {
  form =
      form_left g.met.F.Field.field g.F.Field.act c.args.used.now c.args.rows.now c.requires.stored c.args.work.now c.clear_at_pivots.new.work c.requires.width c.requires.elements c.clear_at_pivots.ensures.value
      c.in-Some.p c.in-Some.ensures.0 c.in-Some.ensures.1 c.in-Some.ensures.2 c.insert_row.new.used c.insert_row.new.rows c.insert_row.ensures.flags c.insert_row.ensures.table;
  count = c.insert_row.ensures.count;
  widths = λ k d l. c.insert_row.ensures.widths k d l ∙ c.clear_at_pivots.ensures.width ∙ c.requires.width ∙ sym c.insert_row.ensures.flags;
  rights = λ k d l. c.insert_row.ensures.rights k d l ∙ c.clear_at_pivots.ensures.right ∙ c.requires.right;
}

pub returns-in-Some-clause-kernel : goal.returns-in-Some-clause-kernel
returns-in-Some-clause-kernel g c = λ rs kernel.
    kernel_left g.met.F.Field.field g.F.Field.act c.args.used.now c.args.rows.now c.requires.stored c.args.work.now c.clear_at_pivots.new.work c.requires.width c.requires.elements c.clear_at_pivots.ensures.value
    c.in-Some.p c.in-Some.ensures.0 c.in-Some.ensures.1 c.in-Some.ensures.2 c.insert_row.new.used c.insert_row.new.rows c.insert_row.ensures.flags c.insert_row.ensures.table rs kernel

pub returns-in-None-clause-kernel : goal.returns-in-None-clause-kernel
returns-in-None-clause-kernel g c = λ rs kernel.
    nothing_left g.met.F.Field.field g.F.Field.act c.args.used.now c.args.rows.now c.requires.stored c.args.work.now c.clear_at_pivots.new.work c.requires.width c.requires.elements c.clear_at_pivots.ensures.value
    c.in-None.ensures rs kernel

pub clear_at_pivots-requires-clause-elements : goal.clear_at_pivots-requires-clause-elements
clear_at_pivots-requires-clause-elements g c = HasRows-same c.args.used.now c.args.rows.now (length c.args.used.now) (length c.args.work.now.right) refl c.requires.right (bare_rows c.args.used.now c.args.rows.now c.requires.stored)

pub insert_row-requires-clause-elements : goal.insert_row-requires-clause-elements
insert_row-requires-clause-elements g c =
    let m = c.clear_at_pivots.new.work in
    HasRows-same c.args.used.now c.args.rows.now (length m.coeffs) (length m.right) (c.clear_at_pivots.ensures.width ∙ c.requires.width) (c.clear_at_pivots.ensures.right ∙ c.requires.right) (bare_rows c.args.used.now c.args.rows.now c.requires.stored)

pub insert_row-requires-clause-others : goal.insert_row-requires-clause-others
insert_row-requires-clause-others g c =
    others_left g.met.F.Field.field g.F.Field.act c.args.used.now c.args.rows.now c.requires.stored c.args.work.now c.clear_at_pivots.new.work c.requires.width c.requires.elements c.clear_at_pivots.ensures.value c.in-Some.p c.in-Some.ensures.1

pub clear_at_pivots-requires-clause-ones : goal.clear_at_pivots-requires-clause-ones
clear_at_pivots-requires-clause-ones g c = bare_ones c.args.used.now c.args.rows.now c.requires.stored
