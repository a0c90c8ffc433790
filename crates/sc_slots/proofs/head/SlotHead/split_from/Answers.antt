use Rattle.std.proofs.Common.{◌++◌, drop, List, ℕ, sym, ap, ◌∙◌, subst}
use Rattle.std.proofs.lemmas.List.{take_rest}
use Rattle.sc_rtp.proofs.ViewSteps.{are_bytes}
use Rattle.sc_slots.specs.Slot.{SlotHead, FitsFields, slot_head_bytes}
use Rattle.sc_slots.specs.Answers.{head_in}
use Rattle.sc_slots.proofs.HeadLaws.{differs, agrees, no_head-short, no_head-first, no_head-marks, slot_head_of-fits, slot_head_bytes-of}
use Rattle.sc_slots.proofs.head.SlotHead.split_from.Goals as goal

pub returns-then-packet-lt-HEAD-clause-none : goal.returns-then-packet-lt-HEAD-clause-none
returns-then-packet-lt-HEAD-clause-none c = λ h rest fits e. no_head-short c.args.packet.now rest h c.if-packet-lt-HEAD.true e

pub returns-then-ne-clause-none : goal.returns-then-ne-clause-none
returns-then-ne-clause-none c = λ h rest fits e. no_head-first c.args.packet.now rest h (differs _ _ c.if-ne.ensures) e

pub returns-then-ne-2-clause-none : goal.returns-then-ne-2-clause-none
returns-then-ne-2-clause-none c = λ h rest fits e. no_head-marks c.args.packet.now rest h (differs _ _ c.if-ne-2.ensures) e

pub returns-clause-some : goal.returns-clause-some
returns-clause-some c =
    let bytes = c.args.packet.now in
    let are = are_bytes bytes c.type_inv.packet in
    let same = c.read.ensures in (
      subst FitsFields (sym same) (slot_head_of-fits bytes are),
      sym (slot_head_bytes-of bytes are c.if-packet-lt-HEAD.false (agrees _ _ c.if-ne.ensures) (agrees _ _ c.if-ne-2.ensures))
          ∙ ap (λ (h : SlotHead). slot_head_bytes h ++ drop 24 bytes) (sym same)
          ∙ ap (λ (l : List ℕ). slot_head_bytes (head_in c.read.result) ++ l) (sym (take_rest bytes 24)),
    )
