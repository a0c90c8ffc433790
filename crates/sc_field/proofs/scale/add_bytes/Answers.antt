use Rattle.sc_field.proofs.SumSteps.{all_done}
use Rattle.sc_field.proofs.scale.add_bytes.Goals as goal

pub returns : goal.returns
returns c = all_done (λ b. b) c.args.dst.now c.args.src.now c.loop-i.dst c.loop-i.i c.loop-i.auto.dst c.requires c.loop-i-test.false c.loop-i.invariant
