-- What a command that was read means.
use Rattle.std.specs.Prelude.{◌≤◌}
use Rattle.sc_words.specs.declared.words.Command.{Command}
use Rattle.sc_words.specs.declared.words.Command.TheVariants.{Lose, Gen, Protect, Check, Repair, Bound, Certify, Design, Trial}
use Rattle.sc_words.specs.Words.{Command as Meaning, lose, generate, protect, check, repair, bound, certify, design, trial}

-- the command that is asked for
abbrev pub meaning : Command → Meaning
meaning (Lose code loss) = lose code.now loss.now
meaning (Gen seed count size) = generate seed count size
meaning (Protect code size) = protect code.now size
meaning (Check code workers) = check code.now workers
meaning (Repair code) = repair code.now
meaning (Bound channel) = bound channel
meaning (Certify code cert) = certify code.now cert.now
meaning (Design kind channel) = design kind channel
meaning (Trial code seed count size) = trial code.now seed count size

-- the words that a command keeps are of their forms
abbrev pub HasItsForms : Command → Type 0
HasItsForms (Lose code loss) = Unit {0}
HasItsForms (Gen seed count size) = (count ≤ 3999960) × (12 ≤ size) × (size ≤ 1472)
HasItsForms (Protect code size) = (12 ≤ size) × (size ≤ 1472)
HasItsForms (Check code workers) = (1 ≤ workers) × (workers ≤ 64)
HasItsForms (Repair code) = Unit {0}
HasItsForms (Bound channel) = Unit {0}
HasItsForms (Certify code cert) = Unit {0}
HasItsForms (Design kind channel) = Unit {0}
HasItsForms (Trial code seed count size) = (count ≤ 10000) × (12 ≤ size) × (size ≤ 1472)
