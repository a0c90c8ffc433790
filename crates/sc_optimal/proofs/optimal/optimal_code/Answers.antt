use Rattle.std.proofs.Common.{◌≡◌, ℕ, ap, arith}
use Rattle.sc_matrix.specs.Matrix.{Matrix}
use Rattle.sc_optimal.proofs.SizeSteps.{rows-optimal}
use Rattle.sc_optimal.proofs.optimal.optimal_code.Goals as goal

pub interleave-requires-clause-limit : goal.interleave-requires-clause-limit
interleave-requires-clause-limit c =
    let channel = c.args.channel.now in
    let cols : c.in_ok-p.p.cols ≡ channel.b = ap (λ (m : Matrix ℕ). m.cols) c.in_ok-p.ensures.matrix in
    omega (arith, rows-optimal channel c.args.c c.in_ok-p.p c.in_ok-p.ensures.matrix, cols, c.requires)
