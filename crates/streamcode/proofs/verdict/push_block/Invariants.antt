use Rattle.std.proofs.Common.{◌≡◌, ◌++◌, [], map, take, string_bytes, slice_index_or}
use Rattle.std.specs.Fmt.{decimal}
use Rattle.std.specs.List.{join_with_byte}
use Rattle.streamcode.proofs.verdict.push_block.Given as goal

abbrev pub invariant-loop-i : goal.invariant-loop-i
invariant-loop-i l = string_bytes l.text ≡ string_bytes l.fn.text ++ join_with_byte 44 (map decimal (take l.i (slice_index_or l.stream l.t [])))
