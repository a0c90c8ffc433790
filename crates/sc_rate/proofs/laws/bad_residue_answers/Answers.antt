use Rattle.sc_rate.proofs.ResidueLaws.{bad_residue-answers}
use Rattle.sc_rate.proofs.laws.bad_residue_answers.Goals as goal

pub returns : goal.returns
returns c = bad_residue-answers
