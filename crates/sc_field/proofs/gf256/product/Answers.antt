use Rattle.std.proofs.Common.{ℕ, ◌+◌, inl, inr, ap, ap₂, sym, ◌∙◌, arith}
use Rattle.sc_field.specs.Gf256.{gf256_product}
use Rattle.sc_field.specs.Laws.Product.{product_zero_left, product_zero_right}
use Rattle.sc_field.proofs.Tables.{exp, log_below, product_by_tables}
use Rattle.sc_field.proofs.gf256.product.Goals as goal

pub overflow_add-logarithm : goal.overflow_add-logarithm
overflow_add-logarithm c = record { fits = omega (arith, log_below c.args.x c.ranges.x.fits, log_below c.args.y c.ranges.y.fits) }

pub power_of_two-requires : goal.power_of_two-requires
power_of_two-requires c = omega (arith, log_below c.args.x c.ranges.x.fits, log_below c.args.y c.ranges.y.fits)

pub returns-then-y-eq0 : goal.returns-then-y-eq0
returns-then-y-eq0 c =
    let x = c.args.x in
    let y = c.args.y in
    elim c.if-y-eq0.either [
      | inl e ↦ sym (ap (λ (n : ℕ). gf256_product n y) e ∙ product_zero_left y)
      | inr (_, e) ↦ sym (ap (gf256_product x) e ∙ product_zero_right x)
    ]

pub returns-else-y-eq0 : goal.returns-else-y-eq0
returns-else-y-eq0 c =
    let sums = ap₂ (λ (m n : ℕ). exp (m + n)) c.logarithm.ensures c.logarithm-else-y-eq0.ensures in
    c.power_of_two.ensures ∙ sums ∙ product_by_tables c.args.x c.args.y (omega arith) c.ranges.x.fits (omega arith) c.ranges.y.fits
