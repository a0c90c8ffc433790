use Rattle.std.proofs.Common.{◌<◌, length, sym, ap, ◌∙◌, subst}
use Rattle.sc_layered.specs.Draw.{DrawsOf, generator, nonzero_at}
use Rattle.sc_layered.proofs.WordLaws.{draw-at}
use Rattle.sc_layered.proofs.draw.Draws.get.Goals as goal

pub returns : goal.returns
returns c =
    let g = generator c.self.inside.seed in
    let small : c.args.place < length c.self.inside.bytes.items = subst (λ (d : DrawsOf). c.args.place < d.count) (sym c.self.view_is) c.requires in
    c.index.ensures ∙ draw-at g (length c.self.inside.bytes.items) c.self.inside.bytes.items c.args.place c.index.result.now c.self.invariant small
    ∙ ap (λ (d : DrawsOf). nonzero_at (generator d.seed) c.args.place) c.self.view_is
