use Rattle.std.proofs.Common.{subst}
use Rattle.sc_outside.specs.Port.{Puts}
use Rattle.sc_outside.specs.Whole.{WriteFailed}
use Rattle.sc_repair.proofs.EndSteps.{rest_end, preamble_end, preamble_lost}
use Rattle.sc_repair.proofs.PromptSteps.{rest_prompt, preamble_prompt, preamble_lost_prompt}
use Rattle.sc_repair.proofs.repair.repair_capture.Goals as goal

pub returns-in-Err-clause-ends : goal.returns-in-Err-clause-ends
returns-in-Err-clause-ends g c = rw c.of.ensures (preamble_end c.args.file.now _ _ c.in-Err.fault c.in-Err.ensures)

pub returns-in-Err-clause-prompt : goal.returns-in-Err-clause-prompt
returns-in-Err-clause-prompt g c = preamble_prompt c.args.file.now _ _ c.in-Err.fault c.in-Err.ensures

pub returns-in_default-clause-ends : goal.returns-in_default-clause-ends
returns-in_default-clause-ends g c =
    let told = g.P.Port.told in
    let read = c.in-Ok.ensures in
    let lost = subst (WriteFailed (told c.read_preamble.new.port) (told c.write_whole.new.port)) c.bytes.ensures.bytes c.in_default.ensures.err in
    preamble_lost c.args.file.now _ _ _ c.in-Ok.preamble read.0 read.1 lost

pub returns-in_default-clause-prompt : goal.returns-in_default-clause-prompt
returns-in_default-clause-prompt g c =
    let told = g.P.Port.told in
    let read = c.in-Ok.ensures in
    let lost = subst (WriteFailed (told c.read_preamble.new.port) (told c.write_whole.new.port)) c.bytes.ensures.bytes c.in_default.ensures.err in
    preamble_lost_prompt c.args.file.now _ _ _ c.in-Ok.preamble read.0 read.1 lost

pub returns-clause-ends : goal.returns-clause-ends
returns-clause-ends g c =
    let told = g.P.Port.told in
    let read = c.in-Ok.ensures in
    let puts = subst (Puts (told c.read_preamble.new.port) (told c.write_whole.new.port)) c.bytes.ensures.bytes c.in-Ok-write_whole.ensures.ok.puts in
    rest_end c.args.file.now _ _ _ c.in-Ok.preamble read.0 read.1 puts _ c.repair_rest.result c.repair_rest.ensures

pub returns-clause-prompt : goal.returns-clause-prompt
returns-clause-prompt g c =
    let told = g.P.Port.told in
    let read = c.in-Ok.ensures in
    let puts = subst (Puts (told c.read_preamble.new.port) (told c.write_whole.new.port)) c.bytes.ensures.bytes c.in-Ok-write_whole.ensures.ok.puts in
    rest_prompt c.args.file.now _ _ _ c.in-Ok.preamble read.0 read.1 puts _ c.repair_rest.result c.repair_rest.ensures
