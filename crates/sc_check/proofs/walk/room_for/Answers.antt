use Rattle.std.proofs.Common.{◌≡◌, ℕ, ◌+◌, ◌*◌, ◌-◌, ◌≤◌, ap, ◌∙◌, subst, arith}
use Rattle.std.specs.Prelude.{All}
use Rattle.std.proofs.lemmas.Nat.{mul-le}
use Rattle.sc_channel.specs.Channel.{ChannelNumbers}
use Rattle.sc_matrix.specs.Matrix.{Matrix}
use Rattle.sc_check.proofs.ClearSteps.{bounded, wide_at_most}
use Rattle.sc_check.proofs.WalkSteps.{IsRoom-more}
use Rattle.sc_check.proofs.walk.room_for.Goals as goal

pub with_capacity-requires-in-loop-lost : goal.with_capacity-requires-in-loop-lost
with_capacity-requires-in-loop-lost c =
    let code = c.args.walk.now.code.now in
    let channel : ChannelNumbers = c.args.walk.now.classes.now in
    let k = c.k-k.result in
    let numbers = c.count-count.ensures.limits in
    let is : c.channel-channel.result ≡ c.args.walk.now.classes.now = c.channel-channel.ensures in
    let t_is : c.t.result ≡ c.args.walk.now.classes.now.t = c.t.ensures.number ∙ ap (λ (ch : ChannelNumbers). ch.t) is in
    let n_is : c.n-n.result ≡ c.args.walk.now.classes.now.n = c.n-n.ensures.number ∙ ap (λ (ch : ChannelNumbers). ch.n) is in
    let wide : (channel.t + 1) * code.r + code.k ≤ 2688 = wide_at_most code (channel.t + 1) c.k-k.ensures.limits (omega (arith, numbers.deadline_limit)) in
    let cols : (c.t.result + 1) * c.r.result + k ≡ (channel.t + 1) * code.r + code.k =
    ap (λ (n : ℕ). (n + 1) * c.r.result + k) t_is ∙ ap (λ (n : ℕ). (channel.t + 1) * n + k) c.r.ensures.number ∙ ap (λ (n : ℕ). (channel.t + 1) * code.r + n) c.k-k.ensures.number in
    let rows : (c.n-n.result - c.loop-lost.lost) * k ≤ 2624 = omega (arith, mul-le (c.n-n.result - c.loop-lost.lost) k 41 64 (omega (arith, n_is, numbers.ordered.count_in_span, numbers.ordered.span_in_deadline, numbers.deadline_limit)) (omega (arith, c.k-k.ensures.number, c.k-k.ensures.limits.in_range.size_limit))) in
    omega (arith, bounded ((c.n-n.result - c.loop-lost.lost) * k) ((c.t.result + 1) * c.r.result + k) (omega (arith, rows)) (omega (arith, cols, wide)))

pub loop-lost-preserved : goal.loop-lost-preserved
loop-lost-preserved c =
    IsRoom-more ((c.t.result + 1) * c.r.result + c.k-k.result) c.loop-lost.lost c.loop-lost.spare.items c.push.new.self.items c.in_ok-with_capacity.field-0
    c.in_ok-push.ensures.items (ap (λ (m : Matrix ℕ). m.cols) c.in_ok-with_capacity.ensures) c.loop-lost.invariant

pub returns : goal.returns
returns c =
    let code = c.args.walk.now.code.now in
    let channel : ChannelNumbers = c.args.walk.now.classes.now in
    let k = c.k-k.result in
    let is : c.channel-channel.result ≡ c.args.walk.now.classes.now = c.channel-channel.ensures in
    let t_is : c.t.result ≡ c.args.walk.now.classes.now.t = c.t.ensures.number ∙ ap (λ (ch : ChannelNumbers). ch.t) is in
    let n_is : c.n-n.result ≡ c.args.walk.now.classes.now.n = c.n-n.ensures.number ∙ ap (λ (ch : ChannelNumbers). ch.n) is in
    let cols : (c.t.result + 1) * c.r.result + k ≡ (channel.t + 1) * code.r + code.k =
    ap (λ (n : ℕ). (n + 1) * c.r.result + k) t_is ∙ ap (λ (n : ℕ). (channel.t + 1) * n + k) c.r.ensures.number ∙ ap (λ (n : ℕ). (channel.t + 1) * code.r + n) c.k-k.ensures.number in
    record {
      enough = omega (arith, n_is, c.loop-lost.invariant.enough, c.loop-lost-test.false);
      widths = subst (λ (w : ℕ). All (λ (m : Matrix ℕ). m.cols ≡ w) c.loop-lost.spare.items) cols c.loop-lost.invariant.widths;
    }
