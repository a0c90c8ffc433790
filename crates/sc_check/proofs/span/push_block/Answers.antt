use Rattle.std.proofs.Common.{◌≡◌, ℕ, ◌+◌, ◌*◌, ◌-◌, map, ap, sym, subst, ◌∙◌, arith}
use Rattle.std.specs.List.{range_with_len}
use Rattle.sc_check.specs.Span.{image_entry, unit_stream}
use Rattle.sc_check.proofs.ClearSteps.{filled}
use Rattle.sc_check.proofs.SpanSteps.{entry-block}
use Rattle.sc_check.proofs.span.push_block.Goals as goal

pub loop-u-preserved : goal.loop-u-preserved
loop-u-preserved c =
    let code = c.args.code.now in
    let f : ℕ → ℕ = image_entry c.args.code.now c.args.slots (unit_stream c.args.s c.args.i) in
    let at : ℕ = c.args.slots * c.args.code.now.r + c.loop-u.u in
    let next : at + 1 ≡ c.args.slots * c.args.code.now.r + (c.loop-u.u + 1) = omega arith in
    let place : at - c.args.slots * c.args.code.now.r ≡ c.loop-u.u = omega arith in
    let entry : f (c.args.slots * c.args.code.now.r + c.loop-u.u) ≡ unit_stream c.args.s c.args.i 0 c.loop-u.u =
    entry-block code c.args.slots (unit_stream c.args.s c.args.i) at (omega arith) ∙ ap (unit_stream c.args.s c.args.i 0) place in
    subst (λ (n : ℕ). c.push.new.self.items ≡ map f (range_with_len 0 n)) next
    (filled f c.loop-u.bytes.items c.push.new.self.items at c.unit_symbol.result c.in_ok-push.ensures.items c.loop-u.invariant (c.unit_symbol.ensures ∙ sym entry))

pub returns : goal.returns
returns c =
    let all : c.args.slots * c.args.code.now.r + c.loop-u.u ≡ c.args.slots * c.args.code.now.r + c.args.code.now.k = omega (arith, c.loop-u.auto.u-end, c.loop-u-test.false, c.k-u-end.ensures.number) in
    c.loop-u.invariant ∙ ap (λ (n : ℕ). map (image_entry c.args.code.now c.args.slots (unit_stream c.args.s c.args.i)) (range_with_len 0 n)) all
