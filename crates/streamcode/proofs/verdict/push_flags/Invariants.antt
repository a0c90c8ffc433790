use Rattle.std.proofs.Common.{◌≡◌, ◌++◌, take, string_bytes}
use Rattle.sc_codefile.specs.LossFile.{flags_text}
use Rattle.streamcode.proofs.verdict.push_flags.Given as goal

abbrev pub invariant-loop-flag : goal.invariant-loop-flag
invariant-loop-flag l = string_bytes l.text ≡ string_bytes l.fn.text ++ flags_text (take l.flag-index l.flags)
