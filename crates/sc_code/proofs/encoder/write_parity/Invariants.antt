use Rattle.std.proofs.Common.{◌≡◌, ℕ, ◌+◌, ◌<◌, length, get_or}
use Rattle.sc_matrix.specs.Layout.{cut}
use Rattle.sc_code.specs.Stream.{byte_at}
use Rattle.sc_code.specs.Ring.{place_of}
use Rattle.sc_code.specs.Sum.{Sum, sum_of}
use Rattle.sc_code.proofs.encoder.write_parity.Given as goal

abbrev pub invariant-loop-j : goal.invariant-loop-j
invariant-loop-j g l =
    (l.sums ≡ l.fn.sums)
    × ((i c : ℕ) (d : Sum g.row.F.Denot) → i < l.j → c < l.width
    → byte_at (cut (length l.fn.sums) l.width l.parity) i c ≡ sum_of g.F.Field.act (get_or l.fn.sums i d) (λ lag at. get_or l.ring.bytes (place_of l.ring lag + at + c) 0))
