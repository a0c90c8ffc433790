use Rattle.std.proofs.Common.{◌≡◌, ◌<◌, [], ◌∷◌, ◌++◌, length, take, get_or, subst, sym, ◌∙◌, ap, arith}
use Rattle.std.proofs.lemmas.List.{take_more, take_all}
use Rattle.sc_echelon.specs.Storage.{table_of}
use Rattle.sc_echelon.specs.Echelon.{HasKernelOf, coeffs_of}
use Rattle.sc_echelon.proofs.reduced.reduce_rows.Goals as goal

pub loop-i-preserved : goal.loop-i-preserved
loop-i-preserved g c =
    let rows = c.args.m.now.rows in
    let i = c.loop-i.i in
    let n = c.rows-i-end.ensures.count in
    let within : i < length rows = omega arith in
    let is : c.load_numbers.new.self.coeffs ≡ get_or rows i [] = ap (λ r. r.coeffs) c.load_numbers.ensures ∙ c.row.ensures.value in
    record {
      stored = c.take_in.ensures.stored;
      flags = c.take_in.ensures.flags ∙ c.loop-i.invariant.flags;
      width = c.take_in.ensures.width ∙ sym c.take_in.ensures.flags;
      right = c.take_in.ensures.right;
      kernel =
          subst (λ rs. HasKernelOf g.F.Field.IsElement g.F.Field.zero g.F.Field.add g.F.Field.mul (length c.take_in.new.used) (coeffs_of (table_of c.take_in.new.used c.take_in.new.rows)) rs)
          (ap (λ r. take i rows ++ r ∷ []) is ∙ sym (take_more rows i [] within)) (c.take_in.ensures.kernel (take i rows) c.loop-i.invariant.kernel);
    }

pub returns-clause-kernel : goal.returns-clause-kernel
returns-clause-kernel g c =
    let n = c.rows-i-end.ensures.count in
    subst (λ rs. HasKernelOf g.F.Field.IsElement g.F.Field.zero g.F.Field.add g.F.Field.mul (length c.loop-i.used) (coeffs_of (table_of c.loop-i.used c.loop-i.rows)) rs)
    (take_all c.loop-i.i c.args.m.now.rows (omega arith)) c.loop-i.invariant.kernel
