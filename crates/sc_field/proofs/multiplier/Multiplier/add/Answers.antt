use Rattle.std.proofs.Common.{bit_xor, ap}
use Rattle.std.specs.Simd.Lanes.{zip2}
use Rattle.sc_field.proofs.multiplier.Multiplier.add.Goals as goal

pub returns : goal.returns
returns g c = ap (zip2 bit_xor c.args.sum) c.times.ensures
