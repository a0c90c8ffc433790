-- The first flags are written, and the rest is a list of those that are left.
use Rattle.std.proofs.Common.{◌≤◌, length}
use Rattle.sc_channel.proofs.OrderSteps.{IsWritten}
use Rattle.sc_channel.proofs.classes.write_flags.Given as goal

abbrev pub invariant-loop-i : goal.invariant-loop-i
invariant-loop-i l = IsWritten (length l.fn.flags) l.fn.n l.fn.index l.flags l.i l.left l.ways l.before × (l.ways ≤ l.fn.count)
