use Rattle.std.proofs.Common.{◌≡◌, ◌+◌, ◌<◌, ◌≤◌, false, set, get_or, ltb, length, refl, sym, ◌∙◌, ap, arith}
use Rattle.std.proofs.lemmas.List.{length-set, get_or-set_same, get_or-set_other}
use Rattle.std.proofs.lemmas.Bool.{ltb-false}
use Rattle.sc_echelon.specs.Storage.{table_of}
use Rattle.sc_echelon.proofs.Skipped.{HasRows-same}
use Rattle.sc_echelon.proofs.StoredSteps.{slot_row}
use Rattle.sc_echelon.proofs.AddWork.{found_others, found_reach, found_lone, left_reduced, found_new, found_adds, found_kept, none_known, none_clash}
use Rattle.sc_echelon.proofs.table.add_work.Goals as goal

pub returns-in-Some-clause-stored : goal.returns-in-Some-clause-stored
returns-in-Some-clause-stored g c =
    let t = table_of c.args.used.now c.args.rows.now in
    let m = c.clear_at_pivots.new.work in
    let left = (left_reduced g.met.F.Field.field g.met.F.Field.action (length c.args.used.now) c.args.width (table_of c.args.used.now c.args.rows.now) c.requires.stored.kept c.args.work.now c.clear_at_pivots.new.work c.requires.row c.clear_at_pivots.ensures.value) in
    let flags = c.insert_row.ensures.flags in
    let stored = c.requires.stored in
    record {
      some = stored.some;
      kept = found_kept g.met.F.Field.field g.met.F.Field.action (length c.args.used.now) c.args.width t stored.kept c.args.work.now m left c.clear_at_pivots.new.work.coeffs refl
          c.in-Some.p c.in-Some.ensures.0 c.in-Some.ensures.1 c.in-Some.ensures.2 (length c.insert_row.new.used) (table_of c.insert_row.new.used c.insert_row.new.rows) flags c.insert_row.ensures.table;
      near =
          (let low = c.first_touched-low.ensures in
          let more = c.max.ensures in
          let farther = c.saturating_sub-in-Some.ensures in
          found_reach g.met.F.Field.field g.met.F.Field.action (length c.args.used.now) c.args.width t stored.kept c.args.work.now m left m.coeffs refl c.in-Some.p c.in-Some.ensures.0 c.in-Some.ensures.1
          c.args.reach.now c.max.result c.first_touched-low.result c.end-end.result (omega arith) (omega arith) low.within stored.near low.others c.end-end.ensures.zeros
          (table_of c.insert_row.new.used c.insert_row.new.rows) c.insert_row.ensures.table);
      lone =
          (let p = c.in-Some.p in
          let q = c.index-rows-p.result in
          let b = ltb (c.in-Some.p + 1) c.end.result in
          let size = stored.flags in
          let width = left.row.width in
          let inside : c.in-Some.p < length c.args.used.now = (let i = c.in-Some.ensures.0 in omega arith) in
          found_lone g.met.F.Field.field g.met.F.Field.action (length c.args.used.now) c.args.width t stored.kept c.args.work.now m left m.coeffs refl p c.in-Some.ensures.0 c.in-Some.ensures.1
          c.args.mixed.now (set c.args.mixed.now p b) stored.lone (λ i other. get_or-set_other c.args.mixed.now p i b false other)
          (table_of c.insert_row.new.used c.insert_row.new.rows) c.insert_row.ensures.table
          (λ j r full off l.
          let is : q ≡ r = slot_row c.insert_row.new.used c.insert_row.new.rows c.insert_row.ensures.count p q r (omega arith) c.index-rows-p.is full in
          let ends : c.end.result ≤ c.in-Some.p + 1 = ltb-false (c.in-Some.p + 1) c.end.result (sym (get_or-set_same c.args.mixed.now p b false (omega arith)) ∙ off) in
          ap (λ x. get_or x.coeffs j g.F.Field.zero) (sym is ∙ c.index-rows-p.is) ∙ c.end.ensures.zeros j (omega arith)));
      flags = length-set c.args.mixed.now c.in-Some.p (ltb (c.in-Some.p + 1) c.end.result) ∙ stored.flags ∙ sym flags;
      count = c.insert_row.ensures.count;
      widths = λ k d l. c.insert_row.ensures.widths k d l ∙ left.row.width ∙ sym flags;
      rights = λ k d l. c.insert_row.ensures.rights k d l ∙ left.row.value.width;
      work_width = c.insert_row.ensures.work_width ∙ left.row.width ∙ sym flags;
      work_right = c.insert_row.ensures.work_right ∙ left.row.value.width;
    }

pub returns-in-Some-clause-known : goal.returns-in-Some-clause-known
returns-in-Some-clause-known g c =
    let both = found_new g.met.F.Field.field g.met.F.Field.action (length c.args.used.now) c.args.width (table_of c.args.used.now c.args.rows.now) c.requires.stored.kept c.args.work.now
    c.clear_at_pivots.new.work (left_reduced g.met.F.Field.field g.met.F.Field.action (length c.args.used.now) c.args.width (table_of c.args.used.now c.args.rows.now) c.requires.stored.kept c.args.work.now c.clear_at_pivots.new.work c.requires.row c.clear_at_pivots.ensures.value) c.clear_at_pivots.new.work.coeffs refl c.in-Some.p c.in-Some.ensures.0 c.in-Some.ensures.1 c.requires.stored.some in
    (λ e. absurd (cc e), λ f. absurd (both.0 f))

pub returns-in-Some-clause-clash : goal.returns-in-Some-clause-clash
returns-in-Some-clause-clash g c =
    let both = found_new g.met.F.Field.field g.met.F.Field.action (length c.args.used.now) c.args.width (table_of c.args.used.now c.args.rows.now) c.requires.stored.kept c.args.work.now
    c.clear_at_pivots.new.work (left_reduced g.met.F.Field.field g.met.F.Field.action (length c.args.used.now) c.args.width (table_of c.args.used.now c.args.rows.now) c.requires.stored.kept c.args.work.now c.clear_at_pivots.new.work c.requires.row c.clear_at_pivots.ensures.value) c.clear_at_pivots.new.work.coeffs refl c.in-Some.p c.in-Some.ensures.0 c.in-Some.ensures.1 c.requires.stored.some in
    (λ e. absurd (cc e), λ f. absurd (both.1 f))

pub returns-in-Some-clause-adds : goal.returns-in-Some-clause-adds
returns-in-Some-clause-adds g c = λ e.
    found_adds g.met.F.Field.field g.met.F.Field.action (length c.args.used.now) c.args.width (table_of c.args.used.now c.args.rows.now) c.requires.stored.kept c.args.work.now
    c.clear_at_pivots.new.work (left_reduced g.met.F.Field.field g.met.F.Field.action (length c.args.used.now) c.args.width (table_of c.args.used.now c.args.rows.now) c.requires.stored.kept c.args.work.now c.clear_at_pivots.new.work c.requires.row c.clear_at_pivots.ensures.value) c.clear_at_pivots.new.work.coeffs refl c.in-Some.p c.in-Some.ensures.0 c.in-Some.ensures.1
    (table_of c.insert_row.new.used c.insert_row.new.rows) c.insert_row.ensures.table

pub returns-then-is_zero_right-clause-known : goal.returns-then-is_zero_right-clause-known
returns-then-is_zero_right-clause-known g c =
    let both = none_known g.met.F.Field.field g.met.F.Field.action (length c.args.used.now) c.args.width (table_of c.args.used.now c.args.rows.now) c.requires.stored.kept c.args.work.now
    c.clear_at_pivots.new.work (left_reduced g.met.F.Field.field g.met.F.Field.action (length c.args.used.now) c.args.width (table_of c.args.used.now c.args.rows.now) c.requires.stored.kept c.args.work.now c.clear_at_pivots.new.work c.requires.row c.clear_at_pivots.ensures.value) c.clear_at_pivots.new.work.coeffs refl c.in-None.ensures c.clear_at_pivots.new.work.right refl (c.is_zero_right.ensures.yes c.if-is_zero_right.true) in
    (λ e. both.0, λ f. refl)

pub returns-then-is_zero_right-clause-clash : goal.returns-then-is_zero_right-clause-clash
returns-then-is_zero_right-clause-clash g c =
    let both = none_known g.met.F.Field.field g.met.F.Field.action (length c.args.used.now) c.args.width (table_of c.args.used.now c.args.rows.now) c.requires.stored.kept c.args.work.now
    c.clear_at_pivots.new.work (left_reduced g.met.F.Field.field g.met.F.Field.action (length c.args.used.now) c.args.width (table_of c.args.used.now c.args.rows.now) c.requires.stored.kept c.args.work.now c.clear_at_pivots.new.work c.requires.row c.clear_at_pivots.ensures.value) c.clear_at_pivots.new.work.coeffs refl c.in-None.ensures c.clear_at_pivots.new.work.right refl (c.is_zero_right.ensures.yes c.if-is_zero_right.true) in
    (λ e. absurd (cc e), λ f. absurd (both.1 f))

pub returns-else-is_zero_right-clause-known : goal.returns-else-is_zero_right-clause-known
returns-else-is_zero_right-clause-known g c =
    let both = none_clash g.met.F.Field.field g.met.F.Field.action (length c.args.used.now) c.args.width (table_of c.args.used.now c.args.rows.now) c.requires.stored.kept c.args.work.now
    c.clear_at_pivots.new.work (left_reduced g.met.F.Field.field g.met.F.Field.action (length c.args.used.now) c.args.width (table_of c.args.used.now c.args.rows.now) c.requires.stored.kept c.args.work.now c.clear_at_pivots.new.work c.requires.row c.clear_at_pivots.ensures.value) c.clear_at_pivots.new.work.coeffs refl c.in-None.ensures c.clear_at_pivots.new.work.right refl (c.is_zero_right.ensures.no c.if-is_zero_right.false) in
    (λ e. absurd (cc e), λ f. absurd (both.1 f))

pub returns-else-is_zero_right-clause-clash : goal.returns-else-is_zero_right-clause-clash
returns-else-is_zero_right-clause-clash g c =
    let both = none_clash g.met.F.Field.field g.met.F.Field.action (length c.args.used.now) c.args.width (table_of c.args.used.now c.args.rows.now) c.requires.stored.kept c.args.work.now
    c.clear_at_pivots.new.work (left_reduced g.met.F.Field.field g.met.F.Field.action (length c.args.used.now) c.args.width (table_of c.args.used.now c.args.rows.now) c.requires.stored.kept c.args.work.now c.clear_at_pivots.new.work c.requires.row c.clear_at_pivots.ensures.value) c.clear_at_pivots.new.work.coeffs refl c.in-None.ensures c.clear_at_pivots.new.work.right refl (c.is_zero_right.ensures.no c.if-is_zero_right.false) in
    (λ e. both.0, λ f. refl)

pub clear_at_pivots-requires-clause-elements : goal.clear_at_pivots-requires-clause-elements
clear_at_pivots-requires-clause-elements g c = HasRows-same c.args.used.now c.args.rows.now (length c.args.used.now) (length c.args.work.now.right) refl c.requires.stored.work_right c.requires.stored.kept.reduced.rows

pub insert_row-requires-clause-elements : goal.insert_row-requires-clause-elements
insert_row-requires-clause-elements g c =
    let m = c.clear_at_pivots.new.work in
    let stored = c.requires.stored in
    HasRows-same c.args.used.now c.args.rows.now (length m.coeffs) (length m.right) (c.clear_at_pivots.ensures.width ∙ stored.work_width) (c.clear_at_pivots.ensures.right ∙ stored.work_right) stored.kept.reduced.rows

pub first_touched-low-requires-clause-others : goal.first_touched-low-requires-clause-others
first_touched-low-requires-clause-others g c =
    found_others g.met.F.Field.field g.met.F.Field.action (length c.args.used.now) c.args.width (table_of c.args.used.now c.args.rows.now) c.requires.stored.kept c.args.work.now
    c.clear_at_pivots.new.work (left_reduced g.met.F.Field.field g.met.F.Field.action (length c.args.used.now) c.args.width (table_of c.args.used.now c.args.rows.now) c.requires.stored.kept c.args.work.now c.clear_at_pivots.new.work c.requires.row c.clear_at_pivots.ensures.value) c.clear_at_pivots.new.work.coeffs refl c.in-Some.p c.in-Some.ensures.0 c.in-Some.ensures.1
    c.args.reach.now c.saturating_sub.result c.saturating_sub.ensures c.requires.stored.near

pub clear_at_pivots-requires-clause-ones : goal.clear_at_pivots-requires-clause-ones
clear_at_pivots-requires-clause-ones g c = c.requires.stored.kept.reduced.one_at
