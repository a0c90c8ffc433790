use Rattle.std.proofs.Common.{◌≡◌, ◌↔◌, ◌<◌, IsTrue, true, false, length, get_or, refl, sym, subst, ◌∙◌, ap, arith}
use Rattle.std.proofs.lemmas.List.{get_or_default}
use Rattle.sc_echelon.specs.Table.{rows_of}
use Rattle.sc_echelon.specs.Storage.{table_of}
use Rattle.sc_echelon.specs.Echelon.{coeffs_of}
use Rattle.sc_echelon.specs.Kernel.{IsKernelVector, IsFree}
use Rattle.sc_echelon.proofs.ReducedLaws.{is_free_exact}
use Rattle.sc_echelon.proofs.StoredReduced.{kernel_kept, flag_off, flag_on}
use Rattle.sc_echelon.proofs.reduced.Reduced.is_free.Goals as goal

pub returns-then-index : goal.returns-then-index
returns-then-index g c =
    let used = c.self.inside.used.items in
    let rows = c.self.inside.rows.items in
    let s = coeffs_of (table_of used rows) in
    let cols : length used ≡ c.args.self.now.cols = ap (λ m. m.cols) c.self.view_is in
    let within : c.args.col < length used = omega arith in
    let flag : get_or used c.args.col false ≡ true = get_or_default used c.args.col false c.index.result.now within ∙ sym c.index.ensures ∙ c.if-index.true in
    let iff = is_free_exact g.met.F.Field.field (length used) (rows_of s) s c.self.invariant.form (kernel_kept g.F.Field.zero g.F.Field.add g.F.Field.mul g.F.Field.IsElement (length used) s) c.args.col within in
    subst (λ m. IsTrue false ↔ IsFree g.F.Field.zero (IsKernelVector g.F.Field.IsElement g.F.Field.zero g.F.Field.add g.F.Field.mul m.cols m.rows) c.args.col) c.self.view_is
    (λ f. absurd (cc f), λ free. flag_on used rows c.self.invariant.count c.args.col within flag (iff.0 free))

pub returns : goal.returns
returns g c =
    let used = c.self.inside.used.items in
    let rows = c.self.inside.rows.items in
    let s = coeffs_of (table_of used rows) in
    let cols : length used ≡ c.args.self.now.cols = ap (λ m. m.cols) c.self.view_is in
    let within : c.args.col < length used = omega arith in
    let flag : get_or used c.args.col false ≡ false = get_or_default used c.args.col false c.index.result.now within ∙ sym c.index.ensures ∙ c.if-index.false in
    let iff = is_free_exact g.met.F.Field.field (length used) (rows_of s) s c.self.invariant.form (kernel_kept g.F.Field.zero g.F.Field.add g.F.Field.mul g.F.Field.IsElement (length used) s) c.args.col within in
    subst (λ m. IsTrue true ↔ IsFree g.F.Field.zero (IsKernelVector g.F.Field.IsElement g.F.Field.zero g.F.Field.add g.F.Field.mul m.cols m.rows) c.args.col) c.self.view_is
    (λ t. iff.1 (flag_off used rows c.self.invariant.count c.args.col within flag), λ free. refl)
