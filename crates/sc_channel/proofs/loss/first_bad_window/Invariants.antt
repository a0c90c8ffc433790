-- What the walk keeps, and that the last w flags were fine at each flag so far.
use Rattle.sc_channel.specs.Sweep.{IsRecentCount, IsEarlyEnd}
use Rattle.sc_channel.proofs.SweepSteps.{RecentFine}
use Rattle.sc_channel.proofs.loss.first_bad_window.Given as goal

abbrev pub invariant-loop-i : goal.invariant-loop-i
invariant-loop-i l =
    IsRecentCount l.w l.flags l.i l.set × IsEarlyEnd l.b l.flags l.i l.early_end × RecentFine l.w l.b l.n l.flags l.i
