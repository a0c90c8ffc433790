use Rattle.sc_rtp.proofs.ViewSteps.{are_bytes}
use Rattle.sc_repair.proofs.repair.are_bytes.Goals as goal

pub returns : goal.returns
returns c = are_bytes c.args.bytes.now c.type_inv.bytes
