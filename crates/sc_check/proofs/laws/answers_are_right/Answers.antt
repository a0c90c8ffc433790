use Rattle.sc_check.proofs.AnswerLaws.{answer-none, answer-some}
use Rattle.sc_check.proofs.laws.answers_are_right.Goals as goal

pub returns-clause-meets : goal.returns-clause-meets
returns-clause-meets c = answer-none

pub returns-clause-refutes : goal.returns-clause-refutes
returns-clause-refutes c = answer-some
