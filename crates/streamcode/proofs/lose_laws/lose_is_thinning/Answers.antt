use Rattle.streamcode.proofs.LoseLaws.{files-due, thinned-due, zero-thinned, one-refused, preamble-refused, reading-refused}
use Rattle.streamcode.proofs.lose_laws.lose_is_thinning.Goals as goal

pub returns-clause-files : goal.returns-clause-files
returns-clause-files c = files-due

pub returns-clause-thinned : goal.returns-clause-thinned
returns-clause-thinned c = thinned-due

pub returns-clause-zero : goal.returns-clause-zero
returns-clause-zero c = zero-thinned

pub returns-clause-one : goal.returns-clause-one
returns-clause-one c = one-refused

pub returns-clause-preamble : goal.returns-clause-preamble
returns-clause-preamble c = preamble-refused

pub returns-clause-refused : goal.returns-clause-refused
returns-clause-refused c = reading-refused
