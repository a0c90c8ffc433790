use Rattle.std.proofs.Common.{◌≡◌, ◌↔◌, ℕ, List}
use Rattle.sc_field.specs.Gf256.{gf256_product}
use Rattle.sc_echelon.specs.Knowledge.{IsSolution}
use Rattle.sc_repair.proofs.columns.Columns.settle_part.Given as goal

abbrev pub invariant-loop-col : goal.invariant-loop-col
invariant-loop-col l =
    (l.self.cols ≡ l.fn.self.cols) × (l.self.width ≡ l.fn.self.width)
    × ((vs : List (List ℕ)) → IsSolution gf256_product l.self vs ↔ IsSolution gf256_product l.fn.self vs)
