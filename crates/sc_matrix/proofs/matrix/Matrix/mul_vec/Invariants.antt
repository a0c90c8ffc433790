use Rattle.std.proofs.Common.{◌≡◌, List, All, map, take}
use Rattle.sc_matrix.specs.Vector.{dot}
use Rattle.sc_matrix.proofs.matrix.Matrix.mul_vec.Given as goal

abbrev pub invariant-loop-i : goal.invariant-loop-i
invariant-loop-i g l =
    record {
      items : l.out.items ≡ map (λ (r : List g.row.F.Denot). dot g.F.Field.zero g.F.Field.add g.F.Field.mul r l.v) (take l.i l.self.rows);
      elements : All g.F.Field.IsElement l.out.items;
    }
