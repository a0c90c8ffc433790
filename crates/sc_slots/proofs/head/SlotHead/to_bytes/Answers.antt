use Rattle.std.proofs.Common.{◌++◌, List, ℕ, ap, ◌∙◌}
use Rattle.sc_rtp.specs.Head.{head_bytes}
use Rattle.sc_rtp.specs.Packet.{plain_head}
use Rattle.sc_slots.specs.Slot.{slot_head_bytes}
use Rattle.sc_slots.proofs.head.SlotHead.to_bytes.Goals as goal

pub returns : goal.returns
unfolding slot_head_bytes
returns c =
    let h = c.args.self.now in
    ap (λ (l : List ℕ). l ++ c.copy_from_slice-2.new.self) (c.copy_from_slice.ensures.after ∙ c.write_head.ensures.head)
    ∙ ap (λ (l : List ℕ). head_bytes (plain_head 96 h.sequence h.timestamp 0x53434431) ++ l) (c.copy_from_slice-2.ensures.after ∙ c.last_bytes-last.ensures)
