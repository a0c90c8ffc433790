use Rattle.std.proofs.Common.{sym, ◌∙◌}
use Rattle.sc_words.proofs.Numbers.{number_none, number_unread, number_within, number_above}
use Rattle.sc_words.proofs.words.number_word.Goals as goal

pub returns-then-not-begins_plain-clause-number : goal.returns-then-not-begins_plain-clause-number
returns-then-not-begins_plain-clause-number c = sym (number_none c.args.most c.args.word.now (cc))

pub returns-in_err-number-clause-number : goal.returns-in_err-number-clause-number
returns-in_err-number-clause-number c =
    let none = number_unread c.args.most c.args.word.now c.parse.result c.ranges.most.fits (cc) c.parse.ensures.value.0 (sym c.ok.ensures.value ∙ c.in_err-number.was) in
    cc

pub returns-then-number-most-clause-number : goal.returns-then-number-most-clause-number
returns-then-number-most-clause-number c =
    number_within c.args.most c.args.word.now c.parse.result c.in_ok-number.number c.ranges.most.fits (cc) c.parse.ensures.value.0 (sym c.ok.ensures.value ∙ c.in_ok-number.was) c.if-number-most.true

pub returns-else-number-most-clause-number : goal.returns-else-number-most-clause-number
returns-else-number-most-clause-number c =
    number_above c.args.most c.args.word.now c.parse.result c.in_ok-number.number c.ranges.most.fits (cc) c.parse.ensures.value.0 (sym c.ok.ensures.value ∙ c.in_ok-number.was) c.if-number-most.false
