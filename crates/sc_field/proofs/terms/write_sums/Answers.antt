use Rattle.std.proofs.Common.{ap, sym, ◌∙◌}
use Rattle.sc_field.specs.Terms.{combined, sum_from}
use Rattle.sc_field.proofs.Sums.{first_and_rest}
use Rattle.sc_field.proofs.terms.write_sums.Goals as goal

pub returns-then-terms-gt0 : goal.returns-then-terms-gt0
returns-then-terms-gt0 g c =
    c.write_sum.ensures
    ∙ ap (λ ts. combined (λ t. g.F.Field.act t.multiplier.coefficient) (λ t. t.at) ts (sum_from c.args.fresh c.args.dst.now) c.args.src.now)
    (sym (first_and_rest (λ t. g.F.Field.act t.multiplier.coefficient) (λ t. t.at) c.index-terms-0.result c.args.terms.now c.if-terms-gt0.true c.index-terms-0.is))
