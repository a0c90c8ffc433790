use Rattle.streamcode.proofs.CertifyLaws.{zero-accepted, bound-printed, accepted-bounds, never-above, residue-told}
use Rattle.streamcode.proofs.check_laws.certify_is_bounding.Goals as goal

pub returns-clause-zero : goal.returns-clause-zero
returns-clause-zero c = zero-accepted

pub returns-clause-printed : goal.returns-clause-printed
returns-clause-printed c = bound-printed

pub returns-clause-bounds : goal.returns-clause-bounds
returns-clause-bounds c = accepted-bounds

pub returns-clause-never_above : goal.returns-clause-never_above
returns-clause-never_above c = never-above

pub returns-clause-refused : goal.returns-clause-refused
returns-clause-refused c = residue-told
