use Rattle.std.proofs.Common.{◌∷◌, ◌+◌, ◌-◌, length, get_or, refl, arith}
use Rattle.sc_field.specs.Terms.{combined, sum_at, sum_from}
use Rattle.sc_field.proofs.Making.{none_made, more_made, last_made}
use Rattle.sc_field.proofs.Sums.{length-whole, get_or-whole, all_within}
use Rattle.sc_field.proofs.terms.write_pair.Goals as goal

pub returns : goal.returns
returns g c =
    let terms = c.args.first.now ∷ c.args.rest.now in
    let src = c.args.src.now in
    let dst = c.args.dst.now in
    let fresh = c.args.fresh in
    let whole = combined (λ t. g.F.Field.act t.multiplier.coefficient) (λ t. t.at) terms (sum_from fresh dst) src in
    let long = length-whole (λ t. g.F.Field.act t.multiplier.coefficient) (λ t. t.at) terms src fresh dst in
    let each = get_or-whole (λ t. g.F.Field.act t.multiplier.coefficient) (λ t. t.at) terms src fresh dst
    (all_within (λ t. g.F.Field.act t.multiplier.coefficient) (λ t. t.at) c.args.first.now c.args.rest.now (length dst) src c.requires.within.0 c.requires.within.1) in
    rw c.store-2.ensures
    (last_made (λ k. sum_at (λ t. g.F.Field.act t.multiplier.coefficient) (λ t. t.at) terms src k (get_or (sum_from fresh dst) k 0)) dst c.store.new.s c.sum_pair.result.1 whole 32 (length dst - 32) (0 + 32) c.sum_pair.ensures.back c.store.auto.s (omega arith) (omega arith)
    long each (rw c.store.ensures (more_made (λ k. sum_at (λ t. g.F.Field.act t.multiplier.coefficient) (λ t. t.at) terms src k (get_or (sum_from fresh dst) k 0)) dst dst c.sum_pair.result.0 32 0 c.sum_pair.ensures.front refl (omega arith) (none_made (λ k. sum_at (λ t. g.F.Field.act t.multiplier.coefficient) (λ t. t.at) terms src k (get_or (sum_from fresh dst) k 0)) dst))))
