use Rattle.std.proofs.Common.{false, length, ◌∙◌, ap}
use Rattle.std.proofs.lemmas.List.{length-replicate}
use Rattle.sc_echelon.proofs.StoredStart.{known_start, stored_start}
use Rattle.sc_echelon.proofs.knowledge.Knowledge.start.Goals as goal

pub invariant_of-result : goal.invariant_of-result
invariant_of-result g c =
    stored_start c.args.cols c.args.width c.in_ok-used.used.items c.in_ok-rows.rows.items (c.in_ok-used.ensures.items_if_clones_equal (λ y e. e)) c.in_ok-rows.ensures.count
    g.met.F.Field.field g.met.F.Field.action c.in_ok-work.work c.requires.width c.in_ok-rows.ensures.widths c.in_ok-rows.ensures.rights c.in_ok-work.ensures.cols c.in_ok-work.ensures.width
    c.in_ok-mixed.mixed.items (ap length (c.in_ok-mixed.ensures.items_if_clones_equal (λ y e. e)) ∙ length-replicate c.args.cols false)

pub returns : goal.returns
returns g c =
    known_start c.args.cols c.args.width c.in_ok-used.used.items c.in_ok-rows.rows.items (c.in_ok-used.ensures.items_if_clones_equal (λ y e. e)) c.in_ok-rows.ensures.count
