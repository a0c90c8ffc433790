use Rattle.std.proofs.Common.{◌≡◌, ℕ, List, length, ap, ◌∙◌}
use Rattle.std.proofs.lemmas.List.Elements.{All-same}
use Rattle.sc_window.proofs.StreamSteps.{whole_blocks, blocks_again, length-numbers_spelled, widths-numbers_spelled}
use Rattle.sc_window.proofs.decide.stream_of.Goals as goal

pub new-requires-clause-whole : goal.new-requires-clause-whole
new-requires-clause-whole g c =
    whole_blocks g.F.Field.zero g.F.Field.number c.args.k c.args.class.now c.args.vector.now c.in_ok-numbers.numbers.items c.requires.some c.requires.width c.in_ok-numbers.ensures

pub returns-clause-spelled : goal.returns-clause-spelled
returns-clause-spelled g c =
    c.new.ensures ∙ blocks_again g.F.Field.zero g.F.Field.number c.args.k c.args.class.now c.args.vector.now c.in_ok-numbers.numbers.items c.requires.some c.requires.width c.in_ok-numbers.ensures

pub returns-clause-blocks : goal.returns-clause-blocks
returns-clause-blocks g c = ap length (returns-clause-spelled g c) ∙ length-numbers_spelled g.F.Field.zero g.F.Field.number c.args.k c.args.class.now c.args.vector.now

pub returns-clause-symbols : goal.returns-clause-symbols
returns-clause-symbols g c =
    All-same (λ (block : List ℕ). length block ≡ c.args.k) c.new.result _ (returns-clause-spelled g c)
    (widths-numbers_spelled g.F.Field.zero g.F.Field.number c.args.k c.args.class.now c.args.vector.now c.requires.width)
