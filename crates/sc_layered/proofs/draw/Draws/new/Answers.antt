use Rattle.std.proofs.Common.{ℕ, sym, ap, ◌∙◌}
use Rattle.sc_layered.specs.Draw.{DrawsOf, generator, nonzero_draws}
use Rattle.sc_layered.proofs.WordLaws.{draws-whole}
use Rattle.sc_layered.proofs.draw.Draws.new.Goals as goal

pub invariant_of-result : goal.invariant_of-result
invariant_of-result c =
    c.in_ok-bytes.ensures ∙ ap (nonzero_draws (generator c.args.seed)) (sym (draws-whole (generator c.args.seed) c.args.count c.in_ok-bytes.bytes.items c.in_ok-bytes.ensures))

pub returns : goal.returns
returns c =
    ap (λ (n : ℕ). let d : DrawsOf = record { seed = c.args.seed; count = n } in d)
    (draws-whole (generator c.args.seed) c.args.count c.in_ok-bytes.bytes.items c.in_ok-bytes.ensures)
