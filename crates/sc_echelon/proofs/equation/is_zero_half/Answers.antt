use Rattle.std.proofs.Common.{sym, ◌∙◌, arith, w8}
use Rattle.std.proofs.lemmas.Bool.{eqb-true}
use Rattle.std.proofs.lemmas.Simd.{bitmask_splat}
use lib.Lanes.{chunk}
use Rattle.sc_echelon.proofs.Chunks.{differs, length-chunk, zeros_of}
use Rattle.sc_echelon.proofs.equation.is_zero_half.Goals as goal

pub returns : goal.returns
returns c = λ yes j low high.
    let xs = c.args.xs.now in
    let at = c.args.at in
    zeros_of 16 xs at c.requires (sym (bitmask_splat w8 differs (chunk at 16 xs) 16 0 (length-chunk 16 xs at c.requires) (omega arith)) ∙ eqb-true _ _ yes) j low high
