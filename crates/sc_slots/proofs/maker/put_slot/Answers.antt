use Rattle.std.proofs.Common.{◌≡◌, ◌*◌, length, ap, ◌∙◌}
use Rattle.sc_code.specs.Code.{Code}
use Rattle.sc_slots.proofs.MakerSteps.{three_behind, slot_spelled}
use Rattle.sc_slots.proofs.maker.put_slot.Goals as goal

pub returns : goal.returns
returns c =
    let code = c.args.encoder.now.code in
    let k : c.k.result ≡ c.args.encoder.now.code.k = c.k.ensures.number ∙ ap (λ (x : Code _). x.k) c.requires.code in
    let r : c.r.result ≡ c.args.encoder.now.code.r = c.r.ensures.number ∙ ap (λ (x : Code _). x.r) c.requires.code in
    let size : length c.next.new.parity ≡ c.args.encoder.now.code.r * c.args.m = c.next.auto.parity ∙ c.requires.maker.parity_size in
    record {
      code = c.next.ensures.code;
      width = c.next.ensures.width;
      waits = λ xs stands.
          three_behind c.args.pending.now _ _ _ _ _ _ _ c.push.ensures c.push-2.ensures c.push-3.ensures
          (c.slot_head.ensures ∙ slot_spelled code c.args.encoder.now.width c.args.m _ _ c.args.label c.args.block.now c.next.new.parity xs k r c.requires.maker.width size (c.next.ensures.parity xs stands));
      stands = c.next.ensures.stands;
    }
