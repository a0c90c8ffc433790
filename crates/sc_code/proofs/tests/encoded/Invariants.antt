use Rattle.std.proofs.Common.{◌≡◌}
use Rattle.sc_code.proofs.tests.encoded.Given as goal

abbrev pub invariant-loop-t : goal.invariant-loop-t
invariant-loop-t g l = (l.encoder.code ≡ l.code) × (l.encoder.width ≡ l.m)
