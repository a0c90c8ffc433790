use Rattle.std.proofs.Common.{◌≡◌, ◌==◌, map, take}
use Rattle.sc_codefile.proofs.loss.flags_of.Given as goal

abbrev pub invariant-loop-byte : goal.invariant-loop-byte
invariant-loop-byte l = l.flags.items ≡ map (λ character. character == 49) (take l.byte-index l.text)
