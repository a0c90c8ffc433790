use Rattle.std.proofs.Common.{◌≡◌, ℕ, ◌+◌, ◌*◌, ◌<◌, ◌≤◌, ◌↔◌, IsTrue, length, take, subst, arith}
use Rattle.std.proofs.lemmas.Nat.{mul-le}
use Rattle.sc_channel.proofs.SetCountSteps.{IsSet-in_range}
use Rattle.sc_matrix.specs.Matrix.{row_count, entry}
use Rattle.sc_check.proofs.WalkSteps.{known-span}
use Rattle.sc_check.proofs.walk.is_known.Goals as goal

pub returns : goal.returns
returns c =
    let flags = take c.args.front.done c.args.flags.now in
    known-span c.args.walk.now.code.now (c.args.walk.now.classes.now.t + 1) flags c.args.vectors.now c.are_zero_from.result c.r.ensures.limits c.known.ensures.shape (IsSet-in_range flags 0 c.requires.first_lost) c.requires.span
    (subst (λ (n : ℕ). IsTrue c.are_zero_from.result ↔ ((k col : ℕ) → k < row_count c.args.vectors.now → n * c.args.walk.now.code.now.r ≤ col → col < c.args.vectors.now.cols → entry 0 c.args.vectors.now k col ≡ 0)) c.requires.room
    (subst (λ (r : ℕ). IsTrue c.are_zero_from.result ↔ ((k col : ℕ) → k < row_count c.args.vectors.now → length c.args.flags.now * r ≤ col → col < c.args.vectors.now.cols → entry 0 c.args.vectors.now k col ≡ 0)) c.r.ensures.number c.are_zero_from.ensures))

pub overflow_mul-flags : goal.overflow_mul-flags
overflow_mul-flags c =
    let deadline = c.count-count.ensures.limits in
    let parities = c.r.ensures.limits.in_range.size_limit in
    omega (arith, mul-le (length c.args.flags.now) c.r.result 41 64 (omega (arith, c.requires.room, deadline.deadline_limit)) (omega (arith, c.r.ensures.number, parities)))
