use Rattle.std.proofs.Common.{ℕ, ◌-◌, ap, ◌∙◌, arith}
use Rattle.sc_field.proofs.Tables.{exp, log_below, inverse_by_tables}
use Rattle.sc_field.proofs.gf256.inverse.Goals as goal

pub overflow_sub-logarithm : goal.overflow_sub-logarithm
overflow_sub-logarithm c = omega (arith, log_below c.args.x c.ranges.x.fits)

pub returns : goal.returns
returns c = c.power_of_two.ensures ∙ ap (λ (n : ℕ). exp (255 - n)) c.logarithm.ensures ∙ inverse_by_tables c.args.x c.requires c.ranges.x.fits
