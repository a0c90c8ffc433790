use Rattle.std.proofs.Common.{◌≡◌, ◌+◌, ◌*◌, ◌<◌, ℕ, [], length, get_or}
use Rattle.sc_field.specs.Gf256.{gf256_product}
use Rattle.sc_matrix.specs.Layout.{cut}
use Rattle.sc_echelon.specs.Knowledge.{IsValueAt}
use Rattle.sc_repair.proofs.equations.read_block.Given as goal

abbrev pub invariant-loop-i : goal.invariant-loop-i
invariant-loop-i l =
    (length l.block ≡ length l.fn.block)
    × ((j : ℕ) → j < l.i → IsValueAt gf256_product l.known (l.place * l.k + j) (get_or (cut l.k l.m l.block) j []))
