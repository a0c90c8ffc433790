use Rattle.std.proofs.Common.{ℕ, ◌+◌, ◌*◌, refl, ap, ◌∙◌, arith}
use Rattle.sc_slots.specs.Answers.{slot_in}
use Rattle.sc_slots.proofs.SlotLaws.{slot_bytes-made}
use Rattle.sc_slots.proofs.slot.slot_head.Goals as goal

pub returns : goal.returns
returns c =
    let a = c.args in
    let plen = 24 + (a.k + a.r) * c.from.result in
    slot_bytes-made a.k a.r a.offset (plen + 8) plen (slot_in a.slot.now) _ _ _ c.requires.packet
    (c.copy_from_slice.ensures.after ∙ c.to_bytes-record.ensures) (c.copy_from_slice-2.ensures.after ∙ c.to_bytes-packet.ensures) refl
    (ap (λ (n : ℕ). 24 + (a.k + a.r) * n) c.from.ensures) (omega arith)
