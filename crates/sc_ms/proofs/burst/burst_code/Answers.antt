use Rattle.std.proofs.Common.{◌≡◌, ℕ, ap, ◌∙◌, arith}
use Rattle.sc_matrix.specs.Matrix.{Matrix, row_count}
use Rattle.sc_channel.specs.Channel.{ChannelNumbers}
use Rattle.sc_ms.specs.Burst.{burst_entry, burst_matrix}
use Rattle.sc_diag.proofs.MadeLaws.{row_count-matrix_with}
use Rattle.sc_ms.proofs.burst.burst_code.Goals as goal

rows : (channel : ChannelNumbers) (p : Matrix ℕ) → p ≡ burst_matrix channel → row_count p ≡ channel.t
rows channel p e = ap row_count e ∙ row_count-matrix_with channel.t channel.b (burst_entry channel.b)

cols : (channel : ChannelNumbers) (p : Matrix ℕ) → p ≡ burst_matrix channel → p.cols ≡ channel.b
cols channel p e = ap (λ (m : Matrix ℕ). m.cols) e

pub interleave-requires-clause-row : goal.interleave-requires-clause-row
interleave-requires-clause-row c =
    let o = c.in_ok-p.ensures.limits.ordered in
    omega (arith, rows c.args.channel.now c.in_ok-p.p c.in_ok-p.ensures.matrix, o.some_loss, o.count_in_span, o.span_in_deadline)

pub interleave-requires-clause-column : goal.interleave-requires-clause-column
interleave-requires-clause-column c =
    let o = c.in_ok-p.ensures.limits.ordered in
    omega (arith, cols c.args.channel.now c.in_ok-p.p c.in_ok-p.ensures.matrix, o.some_loss, o.count_in_span)

pub interleave-requires-clause-limit : goal.interleave-requires-clause-limit
interleave-requires-clause-limit c =
    omega (arith, rows c.args.channel.now c.in_ok-p.p c.in_ok-p.ensures.matrix, cols c.args.channel.now c.in_ok-p.p c.in_ok-p.ensures.matrix, c.requires)
