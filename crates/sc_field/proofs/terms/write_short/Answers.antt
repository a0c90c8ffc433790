use Rattle.std.proofs.Common.{◌∷◌, length, get_or, arith}
use Rattle.sc_field.specs.Terms.{piece, combined, sum_at, sum_from}
use Rattle.sc_field.proofs.Making.{two_made, piece_fits}
use Rattle.sc_field.proofs.Sums.{length-whole, get_or-whole, all_within}
use Rattle.sc_field.proofs.terms.write_short.Goals as goal

pub returns : goal.returns
returns g c =
    let terms = c.args.first.now ∷ c.args.rest.now in
    let src = c.args.src.now in
    let dst = c.args.dst.now in
    let fresh = c.args.fresh in
    let whole = combined (λ t. g.F.Field.act t.multiplier.coefficient) (λ t. t.at) terms (sum_from fresh dst) src in
    let long = length-whole (λ t. g.F.Field.act t.multiplier.coefficient) (λ t. t.at) terms src fresh dst in
    let each = get_or-whole (λ t. g.F.Field.act t.multiplier.coefficient) (λ t. t.at) terms src fresh dst
    (all_within (λ t. g.F.Field.act t.multiplier.coefficient) (λ t. t.at) c.args.first.now c.args.rest.now (length dst) src c.requires.within.0 c.requires.within.1) in
    let fits = piece_fits (length dst) c.requires.long.0 c.requires.long.1 in
    rw c.store_short.ensures
    (two_made (λ k. sum_at (λ t. g.F.Field.act t.multiplier.coefficient) (λ t. t.at) terms src k (get_or (sum_from fresh dst) k 0)) dst c.sum_short-sum.result whole (piece (length dst)) 16 fits.0 fits.1 (omega (arith, fits.2)) c.sum_short-sum.ensures long each)
