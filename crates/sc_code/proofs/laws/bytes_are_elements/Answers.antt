use Rattle.sc_field.specs.Gf256.{gf256_product}
use Rattle.sc_code.proofs.ElementLaws.{IsDecidedOver-iff_bytes}
use Rattle.sc_code.proofs.laws.bytes_are_elements.Goals as goal

pub returns : goal.returns
returns c = IsDecidedOver-iff_bytes gf256_product
