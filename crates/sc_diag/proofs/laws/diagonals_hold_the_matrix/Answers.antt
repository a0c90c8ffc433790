use Rattle.sc_diag.proofs.MadeLaws.{diagonals, others}
use Rattle.sc_diag.proofs.laws.diagonals_hold_the_matrix.Goals as goal

pub returns-clause-diagonals : goal.returns-clause-diagonals
returns-clause-diagonals c = diagonals

pub returns-clause-others : goal.returns-clause-others
returns-clause-others c = others
