use Rattle.std.proofs.Common.{◌≡◌, map}
use Rattle.std.specs.List.{range_with_len}
use Rattle.sc_check.specs.Span.{image_width, unit_image}
use Rattle.sc_check.proofs.span.unit_images.Given as goal

abbrev pub invariant-loop-n : goal.invariant-loop-n
invariant-loop-n l = (l.images.cols ≡ image_width l.code l.slots) × (l.images.rows ≡ map (unit_image l.code l.slots) (range_with_len 0 l.n))
