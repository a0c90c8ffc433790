use Rattle.std.proofs.Common.{ℕ, List, length, subst}
use Rattle.sc_echelon.specs.Knowledge.{IsSolution}
use Rattle.sc_echelon.specs.Storage.{table_of}
use Rattle.sc_echelon.proofs.KnowledgeLaws.{solution_exists}
use Rattle.sc_echelon.proofs.knowledge.Knowledge.known.Goals as goal

pub returns-clause-solvable : goal.returns-clause-solvable
returns-clause-solvable g c =
    subst (λ k. (vs : List (List ℕ)) × IsSolution g.F.Field.act k vs) c.self.view_is
    (solution_exists g.met.F.Field.field g.met.F.Field.action (length c.self.inside.used.items) c.self.inside.width (table_of c.self.inside.used.items c.self.inside.rows.items) c.self.invariant.kept)
