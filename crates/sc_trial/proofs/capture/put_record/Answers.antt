use Rattle.std.proofs.Common.{◌≡◌, ℕ, ◌+◌, ◌*◌, ◌%◌, ◌^◌, ◌-◌, ◌++◌, ap, sym, ◌∙◌, arith}
use Rattle.sc_rtp.specs.Head.{head_bytes as rtp_head_bytes}
use Rattle.sc_rtp.specs.Packet.{plain_head}
use Rattle.sc_rtpdump.specs.Record.{head_bytes}
use Rattle.sc_trial.specs.Draw.{drawn}
use Rattle.sc_trial.proofs.RecordSteps.{record_spelled, three_behind}
use Rattle.sc_trial.proofs.capture.put_record.Goals as goal

pub returns-clause-waits : goal.returns-clause-waits
returns-clause-waits c =
    let i = c.args.index in
    let size = c.args.size in
    let len : 8 + c.args.size ≡ c.args.size + 8 = omega arith in
    let time : 160 * c.args.index % 2 ^ 32 ≡ 160 * c.args.index = omega arith in
    let head : head_bytes (8 + size) size (20 * i) ≡ c.to_bytes.result = ap (λ (n : ℕ). head_bytes n size (20 * i)) len ∙ sym c.to_bytes.ensures in
    let packet : rtp_head_bytes (plain_head 0 (i % 65536) (160 * i % 2 ^ 32) 0x12345678) ≡ c.write_head.new.out =
    ap (λ (t : ℕ). rtp_head_bytes (plain_head 0 (i % 65536) t 0x12345678)) time ∙ sym c.write_head.ensures.head in
    let bytes : drawn c.args.words.now 0 (size - 12) ≡ c.draw.new.bytes = ap (drawn c.args.words.now 0) (sym c.requires.drawn) ∙ sym c.draw.ensures.bytes in
    three_behind _ _ _ _ _ _ _ _ c.push.ensures c.push-2.ensures c.push-3.ensures
    (record_spelled c.args.words.now 0 size i c.requires.least
    ∙ ap (λ h. h ++ (rtp_head_bytes (plain_head 0 (i % 65536) (160 * i % 2 ^ 32) 0x12345678) ++ drawn c.args.words.now 0 (size - 12))) head
    ∙ ap (λ p. c.to_bytes.result ++ (p ++ drawn c.args.words.now 0 (size - 12))) packet
    ∙ ap (λ d. c.to_bytes.result ++ (c.write_head.new.out ++ d)) bytes)
