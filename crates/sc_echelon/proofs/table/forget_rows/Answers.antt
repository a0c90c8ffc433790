use Rattle.std.proofs.Common.{◌≡◌, ◌++◌, false, length, drop, replicate, All, sym, subst, ◌∙◌, ap, arith}
use Rattle.std.proofs.lemmas.List.{length-append, length-drop, length-replicate}
use Rattle.sc_echelon.specs.Steps.{forget}
use Rattle.sc_echelon.specs.Kept.{known_by, IsKept}
use Rattle.sc_echelon.specs.Storage.{table_of, HasReach, IsLoneUnless}
use Rattle.sc_echelon.specs.Knowledge.{Forgets}
use Rattle.sc_echelon.proofs.StoredForget.{forget_stored}
use Rattle.sc_echelon.proofs.KnowledgeLaws.{forgets, kept_forget, reach_forget, lone_forget}
use Rattle.sc_echelon.proofs.table.forget_rows.Goals as goal

pub returns-clause-solutions : goal.returns-clause-solutions
returns-clause-solutions g c =
    let count = c.args.count in
    let used = c.args.used.now in
    let old = c.args.rows.now in
    let kept = c.requires.stored.kept in
    let n = length used in
    let table : table_of c.shift_flags.new.flags c.move_rows.new.rows ≡ forget g.F.Field.zero count (table_of used old) =
    ap (λ fs. table_of fs c.move_rows.new.rows) c.shift_flags.ensures ∙ forget_stored g.F.Field.zero used old c.requires.stored.count count c.requires.fits c.move_rows.new.rows c.move_rows.ensures.moved in
    subst (λ t. Forgets g.F.Field.act count (known_by n c.args.width (table_of used old)) (known_by n c.args.width t)) (sym table)
    (forgets g.met.F.Field.field g.met.F.Field.action n c.args.width (table_of used old) kept count c.requires.fits)

pub returns-clause-stored : goal.returns-clause-stored
returns-clause-stored g c =
    let count = c.args.count in
    let used = c.args.used.now in
    let old = c.args.rows.now in
    let stored = c.requires.stored in
    let kept = stored.kept in
    let n = length used in
    let table : table_of c.shift_flags.new.flags c.move_rows.new.rows ≡ forget g.F.Field.zero count (table_of used old) =
    ap (λ fs. table_of fs c.move_rows.new.rows) c.shift_flags.ensures ∙ forget_stored g.F.Field.zero used old stored.count count c.requires.fits c.move_rows.new.rows c.move_rows.ensures.moved in
    let a = length-append (drop count used) (replicate count false) in
    let b = length-drop count used in
    let d = length-replicate count false in
    let fits = c.requires.fits in
    let same : length c.shift_flags.new.flags ≡ length used = ap length c.shift_flags.ensures ∙ omega arith in
    record {
      some = stored.some;
      kept =
          subst (λ k. IsKept g.F.Field.IsElement g.F.Field.zero g.F.Field.one k c.args.width (table_of c.shift_flags.new.flags c.move_rows.new.rows)) (sym same)
          (subst (λ t. IsKept g.F.Field.IsElement g.F.Field.zero g.F.Field.one n c.args.width t) (sym table)
          (kept_forget g.met.F.Field.field g.met.F.Field.action n c.args.width (table_of used old) kept count fits));
      near =
          subst (λ t. HasReach g.F.Field.zero c.args.reach t) (sym table)
          (reach_forget g.met.F.Field.field g.met.F.Field.action n c.args.width (table_of used old) kept count fits c.args.reach stored.near);
      lone =
          subst (λ fs. IsLoneUnless g.F.Field.zero fs (table_of c.shift_flags.new.flags c.move_rows.new.rows)) (sym c.shift_flags-2.ensures)
          (subst (λ t. IsLoneUnless g.F.Field.zero (drop count c.args.mixed.now ++ replicate count false) t) (sym table)
          (lone_forget g.met.F.Field.field g.met.F.Field.action n c.args.width (table_of used old) kept count fits c.args.mixed.now stored.flags stored.lone));
      flags =
          (let e = stored.flags in
          let a' = length-append (drop count c.args.mixed.now) (replicate count false) in
          let b' = length-drop count c.args.mixed.now in
          ap length c.shift_flags-2.ensures ∙ omega arith) ∙ sym same;
      count = c.move_rows.ensures.moved.size ∙ stored.count ∙ sym same;
      widths = subst (λ k. All (λ r. length r.coeffs ≡ k) c.move_rows.new.rows) (sym same) c.move_rows.ensures.widths;
      rights = c.move_rows.ensures.rights c.args.width stored.rights;
      work_width = stored.work_width ∙ sym same;
      work_right = stored.work_right;
    }
