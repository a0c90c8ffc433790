use Rattle.std.proofs.Common.{◌≡◌, ◌+◌, ◌*◌, map}
use Rattle.std.specs.List.{range_with_len}
use Rattle.sc_check.specs.Span.{image_entry, unit_stream}
use Rattle.sc_check.proofs.span.push_block.Given as goal

abbrev pub invariant-loop-u : goal.invariant-loop-u
invariant-loop-u l = l.bytes.items ≡ map (image_entry l.code l.slots (unit_stream l.s l.i)) (range_with_len 0 (l.slots * l.code.r + l.u))
