use Rattle.std.proofs.Common.{ap, ◌∙◌}
use Rattle.sc_words.specs.Words.{command_of}
use Rattle.sc_words.proofs.OneForm.{command_of-to, command_of-words_of}
use Rattle.sc_words.proofs.word_laws.one_form.Goals as goal

pub returns : goal.returns
returns c = λ words command. (command_of-to words command, λ h. ap command_of h.0 ∙ command_of-words_of command h.1)
