use Rattle.std.proofs.Common.{◌≡◌, ◌↔◌, ℕ, ◌-◌, ◌≤◌, List}
use Rattle.sc_field.specs.Gf256.{gf256_product}
use Rattle.sc_echelon.specs.Knowledge.{IsSolution}
use Rattle.sc_repair.proofs.columns.Columns.settle_all.Given as goal

abbrev pub invariant-loop-col : goal.invariant-loop-col
invariant-loop-col l =
    (l.col ≤ l.count) × (l.self.cols ≡ l.fn.self.cols) × (l.self.width ≡ l.fn.self.width)
    × ((vs : List (List ℕ)) → IsSolution gf256_product l.self vs ↔ IsSolution gf256_product l.fn.self vs)

abbrev pub decreases-loop-col : goal.decreases-loop-col
decreases-loop-col l = l.count - l.col
