use Rattle.std.proofs.Common.{◌-◌, ◌*◌, ◌/◌, ◌<◌, ◌≤◌, length, arith}
use Rattle.std.proofs.lemmas.Nat.{mul-le}
use Rattle.std.proofs.lemmas.Bool.{lt-ltb, le-ltb}
use Rattle.sc_channel.proofs.OrderSteps.{IsWritten-set, IsWritten-clear, left-within, first-within}
use Rattle.sc_channel.proofs.classes.write_flags.Goals as goal
use Rattle.sc_channel.proofs.classes.write_flags.Goals.{then-set, else-set}

-- at most 1,000,000 lists, and at most 40 flags to set
pub overflow_mul-with_flag : goal.overflow_mul-with_flag
overflow_mul-with_flag c =
    let left = left-within _ _ _ _ _ _ _ _ c.loop-i.invariant.0 in
    omega (arith, mul-le c.loop-i.ways c.loop-i.left 1000000 40 (omega (arith, c.loop-i.invariant.1, c.requires.few)) (omega (arith, left, c.requires.limit)))

pub loop-i-preserved : goal.loop-i-preserved
loop-i-preserved c =
    let places = length c.args.flags.now in
    let first = c.loop-i.ways * c.loop-i.left / (places - c.loop-i.i) in
    let within : c.loop-i.i < length c.loop-i.flags = omega (arith, c.loop-i.auto.flags) in
    elim c.if-set.branch [
      | then-set w ↦
          let below : c.loop-i.before < first = w.if-set.true in
          let set = lt-ltb c.loop-i.before first below in
          let next = IsWritten-set places c.args.n c.args.index c.loop-i.flags c.loop-i.i c.loop-i.left c.loop-i.ways c.loop-i.before (omega arith) within c.loop-i.invariant.0 below in
          rw (w.left-is, w.ways-is, w.before-is, set) (next, omega (arith, c.loop-i.invariant.1, first-within places c.args.n c.args.index c.loop-i.flags c.loop-i.i c.loop-i.left c.loop-i.ways c.loop-i.before (omega arith) c.loop-i.invariant.0))
      | else-set w ↦
          let past : first ≤ c.loop-i.before = w.if-set.false in
          let clear = le-ltb c.loop-i.before first past in
          let next = IsWritten-clear places c.args.n c.args.index c.loop-i.flags c.loop-i.i c.loop-i.left c.loop-i.ways c.loop-i.before (omega arith) within c.loop-i.invariant.0 past in
          rw (w.left-is, w.ways-is, w.before-is, clear) (next, omega (arith, c.loop-i.invariant.1))
    ]
