use Rattle.std.proofs.Common.{ℕ, ◌+◌, ap, subst, sym, ◌∙◌}
use Rattle.sc_matrix.specs.Matrix.{Matrix}
use Rattle.sc_check.specs.Span.{image_width}
use Rattle.sc_check.specs.Walk.{IsRoom}
use Rattle.sc_check.proofs.SpanSteps.{IsSpan-start}
use Rattle.sc_check.proofs.walk.first_among_all.Goals as goal

pub take_spare-vectors-requires : goal.take_spare-vectors-requires
take_spare-vectors-requires c =
    subst (λ (n : ℕ). IsRoom (image_width c.args.walk.now.code.now (c.args.walk.now.classes.now.t + 1)) n c.args.spare.now.items) (sym c.all_behind_burst-front.ensures.left) c.requires.spare

pub open_lost-requires-clause-span : goal.open_lost-requires-clause-span
open_lost-requires-clause-span c =
    IsSpan-start c.args.walk.now.code.now (c.args.walk.now.classes.now.t + 1) c.k-k.ensures.limits c.clear.new.self
    (ap (λ (m : Matrix ℕ). m.cols) c.clear.ensures ∙ c.take_spare-vectors.ensures.cols)
    (ap (λ (m : Matrix ℕ). m.rows) c.clear.ensures)
