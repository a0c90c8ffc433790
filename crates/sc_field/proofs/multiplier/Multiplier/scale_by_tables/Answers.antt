use Rattle.std.proofs.Common.{◌≡◌, ℕ, ◌+◌, length, get_or, map, ap, arith}
use Rattle.sc_field.specs.Terms.{two_ends}
use Rattle.sc_field.proofs.Making.{scaled_lanes, two_made, length-mapped, get_or-mapped}
use Rattle.sc_field.proofs.multiplier.Multiplier.scale_by_tables.Goals as goal

from_zero : (n : ℕ) → 0 + n ≡ n
from_zero n = omega arith

pub returns-then-dst-ge16 : goal.returns-then-dst-ge16
returns-then-dst-ge16 g c =
    let f = g.F.Field.act c.args.self.now.coefficient in
    let old = c.args.dst.now in
    let is = scaled_lanes f old old c.load_halves.result c.times-product.result 32 32 (two_ends 16 (length old)) (λ j. 0 + two_ends 16 (length old) j) (omega arith) (λ j. ap (λ (i : ℕ). get_or old i 0) (from_zero (two_ends 16 (length old) j))) c.load_halves.ensures c.times-product.ensures in
    rw c.store_halves.ensures
    (two_made (λ k. f (get_or old k 0)) old c.times-product.result (map f old) 16 32 (omega arith) (omega arith) (omega arith) is (length-mapped f old) (get_or-mapped f old))
