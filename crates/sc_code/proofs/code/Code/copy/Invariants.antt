use Rattle.std.proofs.Common.{◌≡◌, take}
use Rattle.sc_code.proofs.code.Code.copy.Given as goal

abbrev pub invariant-loop-m : goal.invariant-loop-m
invariant-loop-m g l = l.lags.items ≡ take l.m-index l.self.lags
