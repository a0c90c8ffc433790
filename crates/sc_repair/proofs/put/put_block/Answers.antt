use Rattle.std.proofs.Common.{refl}
use Rattle.std.proofs.lemmas.Result.{err_from_is_err_and}
use Rattle.sc_rtp.proofs.ViewSteps.{are_bytes}
use Rattle.sc_slots.specs.Frame.{bad}
use Rattle.sc_slots.proofs.FlushSteps.{GivesMore-none}
use Rattle.sc_repair.proofs.ReadingLaws.{block_reading-is}
use Rattle.sc_repair.proofs.put.put_block.Goals as goal

-- src/put.rt:46:13
pub returns-in_err-put_packet-in-Ok-Packet : goal.returns-in_err-put_packet-in-Ok-Packet
returns-in_err-put_packet-in-Ok-Packet g c =
    let failed = err_from_is_err_and c.from_residual.result c.from_residual.ensures.1 in
    let is = block_reading-is c.args.block.now _ (are_bytes c.args.block.now c.type_inv.block) c.in-Ok-Packet.ensures in
    rw (failed.1, is, c.in-Ok-Packet.field-0-is) (refl, c.in_err-put_packet-in-Ok-Packet.ensures)

-- src/put.rt:39:1
pub returns-in-Ok-Blank : goal.returns-in-Ok-Blank
returns-in-Ok-Blank g c =
    let is = block_reading-is c.args.block.now _ (are_bytes c.args.block.now c.type_inv.block) c.in-Ok-Blank.ensures in
    rw (is, c.in-Ok-Blank.field-0-is) (refl, GivesMore-none _ _)

-- src/put.rt:39:1
pub returns-in_ok-put_packet-in-Ok-Packet : goal.returns-in_ok-put_packet-in-Ok-Packet
returns-in_ok-put_packet-in-Ok-Packet g c =
    let is = block_reading-is c.args.block.now _ (are_bytes c.args.block.now c.type_inv.block) c.in-Ok-Packet.ensures in
    rw (is, c.in-Ok-Packet.field-0-is) (refl, c.in_ok-put_packet-in-Ok-Packet.ensures)

-- src/put.rt:39:1
pub returns-in-Err : goal.returns-in-Err
returns-in-Err g c =
    let is = block_reading-is c.args.block.now bad (are_bytes c.args.block.now c.type_inv.block) c.in-Err.ensures in
    rw is (refl, GivesMore-none _ _)
