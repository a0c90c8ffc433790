use Rattle.std.proofs.Common.{◌≡◌, subst, sym, ◌∙◌}
use Rattle.sc_trial.proofs.TrialSteps.{packet_bound}
use Rattle.sc_trial.proofs.course.packet_len.Goals as goal

pub returns-clause-bound : goal.returns-clause-bound
returns-clause-bound c = packet_bound c.k.result c.r.result c.k-2.result c.width.result c.args.size _ c.k.ensures.number c.r.ensures.number c.k-2.ensures.number c.k.ensures.limits c.requires c.width.ensures.least
