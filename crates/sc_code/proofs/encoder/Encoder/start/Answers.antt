use Rattle.std.proofs.Common.{◌≡◌, ℕ, ◌+◌, ◌-◌, ◌*◌, [], length, replicate, sym, subst, ap, ◌∙◌}
use Rattle.sc_code.specs.Code.{Code}
use Rattle.sc_code.specs.Parity.{last_blocks}
use Rattle.sc_code.specs.Encoder.{kept_in}
use Rattle.sc_code.proofs.EncoderSteps.{kept_in-start}
use Rattle.sc_code.proofs.encoder.Encoder.start.Goals as goal

pub returns-clause-stands : goal.returns-clause-stands
returns-clause-stands g c =
    let code = c.args.code.now in
    let m = c.args.m in
    let count = c.memory.result + 1 in
    let ring = c.in_ok-ring.ring in
    subst (λ (v : Code g.row.F.Denot). kept_in v.k m ring ≡ last_blocks v.k m (length v.lags - 1) []) (sym c.in_ok-kept_code.ensures)
    (subst (λ (n : ℕ). kept_in code.k m ring ≡ last_blocks code.k m (n - 1) []) c.memory.ensures.number
    (kept_in-start code.k m count ring (c.in_ok-ring.ensures.blocks ∙ ap (λ (k : ℕ). replicate count (replicate (k * m) 0)) c.k.ensures.number)))
