use Rattle.sc_field.specs.Gf256.{gf256_product}
use Rattle.sc_window.proofs.ByteSteps.{IsLeastByteDifference-as_bytes}
use Rattle.sc_window.proofs.laws.differences_are_bytes.Goals as goal

pub returns : goal.returns
returns c = IsLeastByteDifference-as_bytes gf256_product
