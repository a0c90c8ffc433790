use Rattle.std.proofs.Common.{◌≡◌, ◌++◌, map, take, string_bytes}
use Rattle.std.specs.List.{join_with_byte}
use Rattle.streamcode.specs.Verdict.{block_text}
use Rattle.streamcode.proofs.verdict.push_stream.Given as goal

abbrev pub invariant-loop-t : goal.invariant-loop-t
invariant-loop-t l = string_bytes l.text ≡ string_bytes l.fn.text ++ join_with_byte 32 (map block_text (take l.t l.stream))
