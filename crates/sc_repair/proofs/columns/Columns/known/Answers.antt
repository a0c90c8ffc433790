use Rattle.std.proofs.Common.{ℕ, List, subst}
use Rattle.sc_field.specs.Gf256.{gf256_product}
use Rattle.sc_echelon.specs.Knowledge.{Knowledge, IsSolution}
use Rattle.sc_repair.proofs.ColumnSteps.{some_solves}
use Rattle.sc_repair.proofs.columns.Columns.known.Goals as goal

pub returns-clause-solvable : goal.returns-clause-solvable
returns-clause-solvable c =
    let e = c.self.inside in
    subst (λ (k : Knowledge ℕ). (vs : List (List ℕ)) × IsSolution gf256_product k vs) c.self.view_is
    (some_solves e.known e.whole.items e.free.items e.bytes c.self.invariant.columns c.known.ensures.solvable)
