use Rattle.std.proofs.Common.{◌≡◌, ◌-◌, true, length, take, drop, set, arith, ap, ◌∙◌}
use Rattle.std.proofs.lemmas.List.{length-take, length-drop, length-set}
use Rattle.sc_channel.specs.Channel.{ChannelNumbers}
use Rattle.sc_channel.specs.Classes.{burst}
use Rattle.sc_channel.proofs.ClassLaws.{IsClass-written}
use Rattle.sc_channel.proofs.OrderSteps.{class-written}
use Rattle.sc_channel.proofs.classes.Classes.write_class.Goals as goal

pub returns-else-index-eq0-clause-class : goal.returns-else-index-eq0-clause-class
returns-else-index-eq0-clause-class c =
    let flags = set c.args.flags.now 0 true in
    let room : length (take (length flags - 1) (drop 1 flags)) ≡ c.args.self.now.t =
    omega (arith, length-take (length flags - 1) (drop 1 flags), length-drop 1 flags, length-set c.args.flags.now 0 true, c.requires.room) in
    class-written c.args.self.now c.n.result c.args.index _ c.args.flags.now c.write_flags.new.flags c.requires.room (omega arith) c.requires.in_range
    (c.n.ensures.number ∙ ap (λ (channel : ChannelNumbers). channel.n) c.self.view_is) room c.write_flags.auto.flags c.write_flags.ensures

pub returns-else-index-eq0-clause-is_class : goal.returns-else-index-eq0-clause-is_class
returns-else-index-eq0-clause-is_class c =
    IsClass-written _ c.args.self.now c.args.index _ c.self.view_is c.self.invariant.0 c.requires.in_range (returns-else-index-eq0-clause-class c)

pub returns-then-index-eq0-clause-is_class : goal.returns-then-index-eq0-clause-is_class
returns-then-index-eq0-clause-is_class c =
    let b : c.b.result ≡ c.args.self.now.b = c.b.ensures.number ∙ ap (λ (channel : ChannelNumbers). channel.b) c.self.view_is in
    burst (rw (b, c.requires.room) at c.write_burst.ensures)
