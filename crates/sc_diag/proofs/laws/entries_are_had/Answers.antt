use Rattle.sc_diag.proofs.MadeLaws.{entry-matrix_with, coefficient-code_with}
use Rattle.sc_diag.proofs.laws.entries_are_had.Goals as goal

pub returns-clause-matrices : goal.returns-clause-matrices
returns-clause-matrices c = entry-matrix_with

pub returns-clause-codes : goal.returns-clause-codes
returns-clause-codes c = coefficient-code_with
