use Rattle.std.proofs.Common.{◌-◌, List, ℕ, length, ap₂, arith}
use Rattle.std.specs.Simd.Lanes.{put_chunk}
use Rattle.sc_field.proofs.Making.{extracted}
use Rattle.sc_field.proofs.lanes.store_halves.Goals as goal

pub returns : goal.returns
returns c =
    let s = c.args.s.now in
    let v = c.args.v in
    let long = c.fits-v.0 in
    ap₂ (λ (a b : List ℕ). put_chunk (length s - 16) (put_chunk 0 s a) b) (extracted 0 16 v (omega arith)) (extracted 16 16 v (omega arith))
