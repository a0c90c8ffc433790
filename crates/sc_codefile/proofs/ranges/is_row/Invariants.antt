use Rattle.std.proofs.Common.{◌≡◌, drop, nat_le}
use Rattle.std.specs.List.{list_all}
use Rattle.sc_codefile.proofs.ranges.is_row.Given as goal

abbrev pub invariant-loop-number : goal.invariant-loop-number
invariant-loop-number l = list_all (λ x. nat_le x 255) l.row ≡ list_all (λ x. nat_le x 255) (drop l.number-index l.row)
