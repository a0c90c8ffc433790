use Rattle.std.proofs.Common.{All, take}
use Rattle.sc_matrix.specs.Matrix.{IsMatrix}
use Rattle.sc_code.specs.Code.{HasShape}
use Rattle.sc_code.proofs.code.have_shape.Given as goal

abbrev pub invariant-loop-m : goal.invariant-loop-m
invariant-loop-m g l =
    All (HasShape l.k l.r) (take l.m-index l.lags) × All (IsMatrix g.F.Field.IsElement) (take l.m-index l.lags)
