use Rattle.sc_rate.proofs.ByteCodeSteps.{byte_code_bounded}
use Rattle.sc_rate.proofs.laws.accepted_certificates_bound_byte_codes.Goals as goal

pub returns : goal.returns
returns c = λ code channel certificate is meets valid accepted. byte_code_bounded code is channel certificate meets valid accepted
