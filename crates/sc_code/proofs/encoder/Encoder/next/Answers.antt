use Rattle.std.proofs.Common.{◌≡◌, ℕ, ◌+◌, ◌-◌, ◌*◌, List, [], ◌∷◌, ◌++◌, length, get_or, sym, subst, ap, ◌∙◌, arith}
use Rattle.sc_matrix.specs.Layout.{cut}
use Rattle.sc_code.specs.Stream.{byte_at}
use Rattle.sc_code.specs.Parity.{parity, last_blocks}
use Rattle.sc_code.specs.Ring.{place_of}
use Rattle.sc_code.specs.Sum.{Sum, sum_of}
use Rattle.sc_code.specs.Encoder.{Encoder, StandsFor, kept_in}
use Rattle.sc_code.proofs.EncoderSteps.{parity_written, parity-pushed, kept_in-push}
use Rattle.sc_code.proofs.encoder.Encoder.next.Goals as goal

pub returns-clause-parity : goal.returns-clause-parity
returns-clause-parity g c stream stands =
    let e = c.self.inside in
    let code = e.code in
    let m = e.width in
    let p = c.self.invariant in
    let zero = g.F.Field.zero in
    let act = g.F.Field.act in
    let new = c.push.new.self in
    let bytes = c.write_parity.new.parity in
    let none : Sum g.row.F.Denot = record { coefficients = []; spots = [] } in
    let slice = c.as_mut_slice.ensures.value in
    let count : length c.as_mut_slice.result.now ≡ code.r = ap length slice ∙ p.are_sums.count in
    let here : kept_in code.k m e.ring ≡ last_blocks code.k m (length code.lags - 1) stream = subst (λ (v : Encoder g.row.F.Denot). StandsFor v stream) (sym c.self.view_is) stands in
    let written : cut code.r m bytes ≡ parity zero act code m (stream ++ cut code.k m c.args.block.now ∷ []) (length stream) =
    parity_written zero act code m new bytes (λ j. get_or e.sums.items j none)
    (c.write_parity.auto.parity ∙ c.requires.parity ∙ sym (ap (λ (v : Encoder g.row.F.Denot). v.code.r * v.width) c.self.view_is))
    (c.push.ensures.size ∙ p.size) (c.push.ensures.count ∙ p.count) c.push.ensures.bytes
    (λ j hj. p.are_sums.each j none (omega (arith, p.are_sums.count)))
    (λ j x hj hx.
    ap (λ (n : ℕ). byte_at (cut n m bytes) j x) (sym count) ∙ c.write_parity.ensures.sums j x none (omega (arith, count)) hx
    ∙ ap (λ (l : List (Sum g.row.F.Denot)). sum_of act (get_or l j none) (λ lag at. get_or new.bytes (place_of new lag + at + x) 0)) slice)
    ∙ parity-pushed zero act code m e.ring new c.args.block.now stream p.is_code.in_range.some_lag c.push.ensures.blocks here in
    subst (λ (v : Encoder g.row.F.Denot). cut v.code.r v.width bytes ≡ parity zero act v.code v.width (stream ++ cut v.code.k v.width c.args.block.now ∷ []) (length stream)) c.self.view_is written

pub returns-clause-stands : goal.returns-clause-stands
returns-clause-stands g c stream stands =
    let e = c.self.inside in
    let code = e.code in
    let m = e.width in
    let p = c.self.invariant in
    let here : kept_in code.k m e.ring ≡ last_blocks code.k m (length code.lags - 1) stream = subst (λ (v : Encoder g.row.F.Denot). StandsFor v stream) (sym c.self.view_is) stands in
    subst (λ (v : Encoder g.row.F.Denot). kept_in code.k m c.push.new.self ≡ last_blocks code.k m (length code.lags - 1) (stream ++ cut v.code.k v.width c.args.block.now ∷ [])) c.self.view_is
    (kept_in-push code.k m (length code.lags - 1) e.ring c.push.new.self c.args.block.now stream c.push.ensures.blocks here)
