use Rattle.std.proofs.Common.{◌+◌, ◌*◌, arith}
use Rattle.sc_layered.proofs.PlaceLaws.{place_below}
use Rattle.sc_layered.proofs.layered.Layers.second_at.Goals as goal

pub draw-requires : goal.draw-requires
draw-requires c =
    let s = c.args.self.now in
    let row = place_below c.args.q s.q c.args.lag (s.t + 1) c.requires.column (omega (arith, c.requires.lag)) in
    let place = place_below (c.args.q * (s.t + 1) + c.args.lag) (s.q * (s.t + 1)) c.args.i s.b row c.requires.row in
    omega (arith, place, s.all_words)
