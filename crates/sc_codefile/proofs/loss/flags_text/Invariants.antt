use Rattle.std.proofs.Common.{◌≡◌, take, string_bytes}
use Rattle.sc_codefile.specs.LossFile.{flags_text}
use Rattle.sc_codefile.proofs.loss.flags_text.Given as goal

abbrev pub invariant-loop-lost : goal.invariant-loop-lost
invariant-loop-lost l = string_bytes l.text ≡ flags_text (take l.lost-index l.flags)
