use Rattle.std.proofs.Common.{refl, ◌∙◌}
use Rattle.sc_field.specs.declared.terms.Term.{Term}
use Rattle.sc_field.proofs.Sums.{one_over_zeros}
use Rattle.sc_field.proofs.multiplier.Multiplier.set_scaled.Goals as goal

pub returns : goal.returns
returns g c =
    let term : Term g.row.F.Denot g.F.Field g.F.PartialEq = record { multiplier = c.args.self.now; at = 0 } in
    c.write_sum.ensures ∙ one_over_zeros (λ t. g.F.Field.act t.multiplier.coefficient) (λ t. t.at) term c.args.dst.now c.args.src.now refl c.requires
