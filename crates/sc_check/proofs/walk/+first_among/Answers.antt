use Rattle.std.proofs.Common.{ℕ, ◌+◌, true, false, subst, sym, ◌∙◌, arith}
use Rattle.sc_check.specs.Span.{image_width}
use Rattle.sc_check.specs.Walk.{IsRoom}
use Rattle.sc_check.proofs.WalkSteps.{decides-front, decides-within_burst, fails-known, FirstIn-told, kept_flags}
use Rattle.sc_check.proofs.walk.+first_among.Goals as goal

pub first_among-returns-then-is_within_burst-clause-found :
    goal.first_among-returns-then-is_within_burst-clause-found
first_among-returns-then-is_within_burst-clause-found t c =
    let alone = c.is_within_burst.ensures.within c.if-is_within_burst.true in
    decides-within_burst c.args.walk.now.code.now c.args.walk.now.classes.now c.args.flags.now c.args.front.done c.args.front.left c.args.front.first c.args.front.ways c.args.from c.args.to
    c.is_within_burst.ensures.ordered c.requires.room c.requires.front alone.0 alone.1 c.requires.low c.requires.high c.requires.burst

pub first_among-returns-then-is_known-clause-found :
    goal.first_among-returns-then-is_known-clause-found
first_among-returns-then-is_known-clause-found t c =
    decides-front c.args.walk.now.code.now c.args.walk.now.classes.now c.args.flags.now c.args.front.done c.args.front.left c.args.front.first c.args.front.ways c.args.from c.args.to c.requires.front c.requires.low c.requires.high
    (c.is_known.ensures.0 c.if-is_known.true)

pub first_among-returns-then-front-flags-clause-found :
    goal.first_among-returns-then-front-flags-clause-found
first_among-returns-then-front-flags-clause-found t c =
    fails-known c.args.walk.now.code.now c.args.walk.now.classes.now c.args.flags.now c.args.front.done c.args.front.left c.args.front.first c.args.front.ways c.args.from c.args.to c.is_known.result c.requires.front c.requires.room
    (cc) c.requires.low c.requires.high (omega (arith, c.if-from-to.false)) c.is_known.ensures c.if-is_known.false

pub first_below-returns-clause-found : goal.first_below-returns-clause-found
first_below-returns-clause-found t c =
    FirstIn-told c.args.walk.now.code.now c.args.walk.now.classes.now c.args.from c.args.to (c.args.front.first + c.ways_lost.result) c.min-high.result c.max-low.result c.in_ok-found.found c.first_kept.result
    c.min-high.ensures c.max-low.ensures (sym c.if-is_some.false ∙ c.is_some.ensures) c.in_ok-found.ensures.found c.first_kept.ensures.found

pub first_kept-returns-clause-kept : goal.first_kept-returns-clause-kept
first_kept-returns-clause-kept t c =
    kept_flags c.args.flags.now c.first_among.new.flags c.args.front.done c.kept_next-next.result.done false c.kept_next-next.ensures.done c.first_among.ensures.kept

pub first_lost-take_spare-more-requires : goal.first_lost-take_spare-more-requires
first_lost-take_spare-more-requires t c =
    subst (λ (n : ℕ). IsRoom (image_width c.args.walk.now.code.now (c.args.walk.now.classes.now.t + 1)) n c.args.spare.now.items) (sym c.lost_next-next.ensures.left) c.requires.spare

pub first_lost-returns-clause-spare : goal.first_lost-returns-clause-spare
first_lost-returns-clause-spare t c =
    subst (λ (n : ℕ). IsRoom (image_width c.args.walk.now.code.now (c.args.walk.now.classes.now.t + 1)) n c.give_back.new.spare.items) c.lost_next-next.ensures.left c.in_ok-give_back.ensures

pub first_lost-returns-in_err-found-clause-kept : goal.first_lost-returns-in_err-found-clause-kept
first_lost-returns-in_err-found-clause-kept t c =
    kept_flags c.args.flags.now c.first_among.new.flags c.args.front.done c.lost_next-next.result.done true c.lost_next-next.ensures.done c.first_among.ensures.kept

pub first_lost-returns-in_err-give_back-clause-kept : goal.first_lost-returns-in_err-give_back-clause-kept
first_lost-returns-in_err-give_back-clause-kept t c =
    kept_flags c.args.flags.now c.first_among.new.flags c.args.front.done c.lost_next-next.result.done true c.lost_next-next.ensures.done c.first_among.ensures.kept

pub first_lost-returns-clause-kept : goal.first_lost-returns-clause-kept
first_lost-returns-clause-kept t c =
    kept_flags c.args.flags.now c.first_among.new.flags c.args.front.done c.lost_next-next.result.done true c.lost_next-next.ensures.done c.first_among.ensures.kept
