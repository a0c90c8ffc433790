use Rattle.streamcode.proofs.TrialLaws.{words-tried, numbers-due, zero-all-recovered, five-some-missed, four-too-wide, wide-told}
use Rattle.streamcode.proofs.trial_laws.trial_is_counting.Goals as goal

pub returns-clause-words : goal.returns-clause-words
returns-clause-words c = words-tried

pub returns-clause-numbers : goal.returns-clause-numbers
returns-clause-numbers c = numbers-due

pub returns-clause-zero : goal.returns-clause-zero
returns-clause-zero c = zero-all-recovered

pub returns-clause-five : goal.returns-clause-five
returns-clause-five c = five-some-missed

pub returns-clause-four : goal.returns-clause-four
returns-clause-four c = four-too-wide

pub returns-clause-wide : goal.returns-clause-wide
returns-clause-wide c = wide-told
