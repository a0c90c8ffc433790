use Rattle.sc_slots.proofs.CaptureSteps.{protected-capture, protected-count, protected-kind, slot_is}
use Rattle.sc_slots.proofs.protect.protected_is_a_capture.Goals as goal

pub returns : goal.returns
returns c = record { capture = protected-capture; count = protected-count; kind = protected-kind; shape = slot_is }
