use Rattle.std.proofs.Common.{◌≡◌, ℕ, ◌+◌, ◌*◌, ◌<◌, map, ap, ap₂, sym, subst, ◌∙◌, arith}
use Rattle.std.specs.List.{range_with_len}
use Rattle.std.proofs.lemmas.Nat.{div-mul-add, mod-mul-add, mul-add-lt}
use Rattle.sc_check.specs.Span.{image_entry, unit_stream, parity_at}
use Rattle.sc_check.proofs.ClearSteps.{filled}
use Rattle.sc_check.proofs.SpanSteps.{entry-parity}
use Rattle.sc_check.proofs.span.push_parities.Goals as goal

pub loop-j-preserved : goal.loop-j-preserved
loop-j-preserved c =
    let code = c.args.code.now in
    let f : ℕ → ℕ = image_entry c.args.code.now c.args.slots (unit_stream c.args.s c.args.i) in
    let at : ℕ = c.args.t * c.args.code.now.r + c.loop-j.j in
    let within : c.loop-j.j < c.args.code.now.r = omega (arith, c.loop-j-test.true, c.r-j-end.ensures.number) in
    let next : at + 1 ≡ c.args.t * c.args.code.now.r + (c.loop-j.j + 1) = omega arith in
    let low : at < c.args.slots * c.args.code.now.r = omega (arith, mul-add-lt c.args.t c.args.code.now.r c.loop-j.j c.args.slots c.requires.within within) in
    let entry : f (c.args.t * c.args.code.now.r + c.loop-j.j) ≡ parity_at c.args.code.now (unit_stream c.args.s c.args.i) c.args.t c.loop-j.j =
    entry-parity code c.args.slots (unit_stream c.args.s c.args.i) at low
    ∙ ap₂ (λ (a b : ℕ). parity_at code (unit_stream c.args.s c.args.i) a b) (div-mul-add c.args.t c.args.code.now.r c.loop-j.j within) (mod-mul-add c.args.t c.args.code.now.r c.loop-j.j within) in
    subst (λ (n : ℕ). c.push.new.self.items ≡ map f (range_with_len 0 n)) next
    (filled f c.loop-j.bytes.items c.push.new.self.items at c.unit_parity.result c.in_ok-push.ensures.items c.loop-j.invariant (c.unit_parity.ensures ∙ sym entry))

pub returns : goal.returns
returns c =
    let all : c.args.t * c.args.code.now.r + c.loop-j.j ≡ (c.args.t + 1) * c.args.code.now.r = omega (arith, c.loop-j.auto.j-end, c.loop-j-test.false, c.r-j-end.ensures.number) in
    c.loop-j.invariant ∙ ap (λ (n : ℕ). map (image_entry c.args.code.now c.args.slots (unit_stream c.args.s c.args.i)) (range_with_len 0 n)) all
