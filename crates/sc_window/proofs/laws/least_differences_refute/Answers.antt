use Rattle.std.proofs.Common.{arith}
use Rattle.sc_field.specs.Gf256.{gf256_product}
use Rattle.sc_field.specs.Laws.Gf256Laws.{gf256_field, gf256_action}
use Rattle.sc_window.proofs.ByteSteps.{as_bytes, IsLeastByteDifference-as_bytes}
use Rattle.sc_window.proofs.RefutationSteps.{IsLeastRefutation-from_difference}
use Rattle.sc_window.proofs.laws.least_differences_refute.Goals as goal

pub returns : goal.returns
returns c code channel loss numbers hc flags set admissible least =
    IsLeastRefutation-from_difference gf256_field gf256_action code channel loss (as_bytes numbers) hc flags set admissible
    (IsLeastByteDifference-as_bytes gf256_product code loss numbers (omega arith) least)
