use Rattle.std.proofs.Common.{◌+◌, [], ◌++◌, length, refl, ◌∙◌, ap, sym, arith, append_assoc}
use Rattle.std.proofs.lemmas.Result.{err_from_is_err_and}
use Rattle.sc_rtpdump.specs.Record.{record_bytes}
use Rattle.sc_rtpdump.proofs.NextSteps.{record_bytes-is}
use Rattle.sc_slots.proofs.FlushSteps.{GivesMore-none, GivesMore-way, GivesMore-push, LosesMore-way}
use Rattle.sc_repair.proofs.put.put_packet.Goals as goal

-- src/put.rt:27:5
pub returns-in_err-make_way : goal.returns-in_err-make_way
returns-in_err-make_way g c =
    let failed = err_from_is_err_and c.from_residual.result c.from_residual.ensures.1 in
    rw failed.1 (LosesMore-way _ _ _ [] _ _ _ _ (GivesMore-none _ _) c.in_err-make_way.ensures)

-- src/put.rt:17:1
pub returns : goal.returns
returns g c =
    let way = GivesMore-way _ _ _ [] _ _ _ _ _ (GivesMore-none _ _) c.in_ok-make_way.ensures in
    GivesMore-push _ _ [] _ _ _ (record_bytes (record { plen = length c.args.packet.now; offset = c.args.offset; body = c.args.packet.now })) way
    (c.push-2.ensures ∙ ap (λ l. l ++ c.args.packet.now) c.push.ensures ∙ append_assoc c.make_way.new.self c.to_bytes.result c.args.packet.now
    ∙ ap (λ l. c.make_way.new.self ++ l) (ap (λ l. l ++ c.args.packet.now) c.to_bytes.ensures ∙ sym (record_bytes-is (record { plen = length c.args.packet.now; offset = c.args.offset; body = c.args.packet.now }) (length c.args.packet.now + 8) (length c.args.packet.now) c.args.offset refl (omega arith))))
