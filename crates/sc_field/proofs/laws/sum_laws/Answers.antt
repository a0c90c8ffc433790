use Rattle.sc_field.proofs.Sums.{get_or-combined}
use Rattle.sc_field.proofs.CombinedLaws.{combined_apart, combined_added}
use Rattle.sc_field.proofs.laws.sum_laws.Goals as goal

pub returns-clause-at : goal.returns-clause-at
returns-clause-at g c = get_or-combined

pub returns-clause-apart : goal.returns-clause-apart
returns-clause-apart g c = combined_apart

pub returns-clause-added : goal.returns-clause-added
returns-clause-added g c = combined_added
