use Rattle.std.proofs.Common.{ℕ, sym, subst}
use Rattle.sc_field.specs.Gf256.{gf256_product}
use Rattle.sc_echelon.specs.Knowledge.{Forgets}
use Rattle.sc_repair.proofs.ColumnSteps.{forgets_none, forgets_quiet}
use Rattle.sc_repair.proofs.columns.forget_told.Goals as goal
use Rattle.sc_repair.proofs.columns.forget_told.Goals.{then-not-told-via-then-not-told, then-not-told-via-else-not-told+then-count-eq0}

pub returns-then-not-told-clause-solutions : goal.returns-then-not-told-clause-solutions
returns-then-not-told-clause-solutions c = elim c.then-not-told.branch [
  | then-not-told-via-then-not-told w ↦ forgets_quiet c.args.known.now c.args.count c.requires.some c.requires.count (c.requires.quiet w.if-not-told.true)
  | then-not-told-via-else-not-told+then-count-eq0 w ↦ subst (λ (n : ℕ). Forgets gf256_product n c.args.known.now c.args.known.now) (sym w.if-count-eq0.true) (forgets_none c.args.known.now)
]
