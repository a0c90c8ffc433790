use Rattle.std.proofs.Common.{subst}
use Rattle.sc_outside.specs.Port.{Puts}
use Rattle.sc_outside.specs.Whole.{WriteFailed}
use Rattle.sc_slots.specs.Protected.{protection_of}
use Rattle.sc_slots.proofs.EndSteps.{rest_end, preamble_end, preamble_lost}
use Rattle.sc_slots.proofs.protect.protect_capture.Goals as goal

pub returns-in-Err : goal.returns-in-Err
returns-in-Err g c = rw c.of.ensures (preamble_end (protection_of c.args.file.now c.args.size) _ _ c.in-Err.fault c.in-Err.ensures)

pub returns-in_default : goal.returns-in_default
returns-in_default g c =
    let told = g.P.Port.told in
    let read = c.in-Ok.ensures in
    let lost = subst (WriteFailed (told c.read_preamble.new.port) (told c.write_whole.new.port)) c.bytes.ensures.bytes c.in_default.ensures.err in
    preamble_lost (protection_of c.args.file.now c.args.size) _ _ _ c.in-Ok.preamble read.0 read.1 lost

pub returns : goal.returns
returns g c =
    let told = g.P.Port.told in
    let read = c.in-Ok.ensures in
    let puts = subst (Puts (told c.read_preamble.new.port) (told c.write_whole.new.port)) c.bytes.ensures.bytes c.in-Ok-write_whole.ensures.ok.puts in
    rest_end (protection_of c.args.file.now c.args.size) _ _ _ _ c.in-Ok.preamble c.protect_rest.result read.0 read.1 puts c.protect_rest.ensures
