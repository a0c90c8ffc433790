-- Each step decides a slot more.
use Rattle.std.proofs.Common.{◌+◌, ◌-◌, ◌*◌, length}
use Rattle.sc_check.proofs.walk.+first_among.Given as goal

abbrev pub decreases-first_among : goal.decreases-first_among
decreases-first_among l = 3 * (length l.flags.now - l.front.done) + 2

abbrev pub decreases-first_below : goal.decreases-first_below
decreases-first_below l = 3 * (length l.flags.now - l.front.done) + 1

abbrev pub decreases-first_lost : goal.decreases-first_lost
decreases-first_lost l = 3 * (length l.flags.now - l.front.done)

abbrev pub decreases-first_kept : goal.decreases-first_kept
decreases-first_kept l = 3 * (length l.flags.now - l.front.done)
