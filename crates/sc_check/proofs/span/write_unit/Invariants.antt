use Rattle.std.proofs.Common.{◌≡◌, ◌*◌, map}
use Rattle.std.specs.List.{range_with_len}
use Rattle.sc_check.specs.Span.{image_entry, unit_stream}
use Rattle.sc_check.proofs.span.write_unit.Given as goal

abbrev pub invariant-loop-t : goal.invariant-loop-t
invariant-loop-t l = l.bytes.items ≡ map (image_entry l.code l.slots (unit_stream l.s l.i)) (range_with_len 0 (l.t * l.code.r))
