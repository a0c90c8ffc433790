use Rattle.std.proofs.Common.{◌≡◌, length, take}
use Rattle.sc_echelon.specs.Storage.{table_of}
use Rattle.sc_echelon.specs.Echelon.{IsEchelonStored, HasKernelOf, coeffs_of}
use Rattle.sc_echelon.proofs.reduced.reduce_rows.Given as goal

abbrev pub invariant-loop-i : goal.invariant-loop-i
invariant-loop-i g l = record {
  stored : IsEchelonStored g.F.Field.IsElement g.F.Field.zero g.F.Field.one l.used l.rows;
  flags : length l.used ≡ length l.fn.used;
  width : length l.work.coeffs ≡ length l.used;
  right : length l.work.right ≡ 0;
  kernel : HasKernelOf g.F.Field.IsElement g.F.Field.zero g.F.Field.add g.F.Field.mul (length l.used) (coeffs_of (table_of l.used l.rows)) (take l.i l.m.rows);
}
