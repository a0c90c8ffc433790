-- Each step halves the parts.
use Rattle.std.proofs.Common.{◌+◌, ◌-◌, ◌*◌}
use Rattle.sc_check.proofs.failing.+first_in_parts+fn-first_in_parts-lower+fn-first_in_parts-upper.Given as goal

abbrev pub decreases-first_in_parts : goal.decreases-first_in_parts
decreases-first_in_parts g l = 2 * (l.to - l.from)

abbrev pub decreases-lower : goal.decreases-lower
decreases-lower g l = 2 * (l.middle - l.from) + 1

abbrev pub decreases-upper : goal.decreases-upper
decreases-upper g l = 2 * (l.to - l.middle) + 1
