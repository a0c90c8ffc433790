use Rattle.std.proofs.Common.{ap, ◌∙◌}
use Rattle.sc_words.specs.Words.{number_to}
use Rattle.sc_words.proofs.Numbers.{number_to-to_decimal, number_to-decimal}
use Rattle.sc_words.proofs.word_laws.one_numeral.Goals as goal

pub returns : goal.returns
returns c = λ most word n fits. (number_to-to_decimal most word n fits, λ h. ap (number_to most) h.0 ∙ number_to-decimal most n fits h.1)
