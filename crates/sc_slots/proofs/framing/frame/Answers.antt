use Rattle.std.proofs.Common.{◌≡◌, ◌++◌, List, ℕ, length, ◌∙◌, sym, subst, arith}
use Rattle.sc_slots.specs.Frame.{frame_bytes, IsFrame}
use Rattle.sc_slots.proofs.FrameLaws.{frame-written, frame-there}
use Rattle.sc_slots.proofs.framing.frame.Goals as goal

pub returns : goal.returns
returns c =
    let a = c.args in
    let len = length a.block.now in
    let split = c.split_at_mut-front in
    let bytes : c.copy_from_slice.new.self ++ c.write_padded.new.body ≡ frame_bytes a.offset a.packet.now len =
    frame-written a.offset a.packet.now _ _ (length split.result.1.now) len (c.copy_from_slice.ensures.after ∙ c.front_of-head.ensures) c.write_padded.ensures (omega (arith, split.ensures.back_len)) in
    record {
      bytes = bytes;
      frame = subst (λ (b : List ℕ). IsFrame b a.offset a.packet.now) (sym bytes)
          (frame-there a.offset a.packet.now len c.ranges.offset.fits c.requires.some (omega (arith, c.requires.length)) c.requires.room);
    }
