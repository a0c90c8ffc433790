use Rattle.std.proofs.Common.{refl}
use Rattle.streamcode.proofs.JobLaws.{design_told}
use Rattle.streamcode.proofs.design.design.Goals as goal

pub returns-in-Err-clause-ends : goal.returns-in-Err-clause-ends
returns-in-Err-clause-ends g c =
    design_told c.args.kind c.args.channel (g.P.Port.told c.args.port.now) c.maker_of.result _ c.in-Err.fault c.of_design.result c.maker_of.ensures refl c.in-Err.ensures.answer c.of_design.ensures
