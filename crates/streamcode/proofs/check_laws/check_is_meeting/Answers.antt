use Rattle.streamcode.proofs.CheckLaws.{zero-meeting, meeting-printed, one-refuted, refutation-printed, many-refused}
use Rattle.streamcode.proofs.check_laws.check_is_meeting.Goals as goal

pub returns-clause-zero : goal.returns-clause-zero
returns-clause-zero c = zero-meeting

pub returns-clause-accepted : goal.returns-clause-accepted
returns-clause-accepted c = meeting-printed

pub returns-clause-one : goal.returns-clause-one
returns-clause-one c = one-refuted

pub returns-clause-refuted : goal.returns-clause-refuted
returns-clause-refuted c = refutation-printed

pub returns-clause-many : goal.returns-clause-many
returns-clause-many c = many-refused
