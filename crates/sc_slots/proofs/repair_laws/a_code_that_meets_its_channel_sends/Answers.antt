use Rattle.sc_slots.proofs.SentLaws.{IsSentOver-met}
use Rattle.sc_slots.proofs.repair_laws.a_code_that_meets_its_channel_sends.Goals as goal

pub returns : goal.returns
returns g c = IsSentOver-met g.F.Field.zero g.F.Field.act
