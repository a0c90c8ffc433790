use Rattle.streamcode.proofs.DesignLaws.{zero-first, first-given, ten-no_code, four-wide, eleven-many}
use Rattle.streamcode.proofs.check_laws.design_is_first_good.Goals as goal

pub returns-clause-zero : goal.returns-clause-zero
returns-clause-zero c = zero-first

pub returns-clause-first : goal.returns-clause-first
returns-clause-first c = first-given

pub returns-clause-none : goal.returns-clause-none
returns-clause-none c = ten-no_code

pub returns-clause-wide : goal.returns-clause-wide
returns-clause-wide c = four-wide

pub returns-clause-many : goal.returns-clause-many
returns-clause-many c = eleven-many
