use Rattle.std.proofs.Common.{◌≡◌, ℕ, ◌-◌, ◌*◌, length, take, drop, List, refl, sym, arith}
use Rattle.std.proofs.lemmas.Grind.{common_steps}
use Rattle.sc_rtp.specs.Reading.{reading_of}
use Rattle.sc_rtp.proofs.ReadingLaws.{reading_of-short}
use Rattle.sc_rtp.proofs.ViewSteps.{are_bytes, slice_to_end, reading_of-other, reading_of-few, passes_csrcs, reading_of-no_extension, reading_of-no_padding, holds, gives}
use Rattle.sc_rtp.proofs.view.RtpView.read.Goals as goal

pub returns-then-packet-lt-FIXED : goal.returns-then-packet-lt-FIXED
returns-then-packet-lt-FIXED c =
    let e = sym (reading_of-short c.args.packet.now c.if-packet-lt-FIXED.true) in
    record { reading = e; gives = gives c.args.packet.now _ (are_bytes _ c.type_inv.packet) e }

pub returns-then-head-ne2 : goal.returns-then-head-ne2
returns-then-head-ne2 c =
    let e = sym (reading_of-other c.args.packet.now c.of-head.result c.if-packet-lt-FIXED.false c.of-head.ensures c.if-head-ne2.true) in
    record { reading = e; gives = gives c.args.packet.now _ (are_bytes _ c.type_inv.packet) e }

pub returns-then-rest-csrc_len : goal.returns-then-rest-csrc_len
returns-then-rest-csrc_len c =
    let bytes = c.args.packet.now in
    let e = sym (reading_of-few bytes _ c.of-head.result c.if-packet-lt-FIXED.false c.of-head.ensures (slice_to_end 12 bytes) c.if-head-ne2.false (omega (arith, c.if-rest-csrc_len.true, c.from-csrc_len.ensures))) in
    record { reading = e; gives = gives bytes _ (are_bytes _ c.type_inv.packet) e }

pub returns-in_err-rest : goal.returns-in_err-rest
returns-in_err-rest c =
    let bytes = c.args.packet.now in
    let first : List ℕ = take (length bytes - 12) (drop 12 bytes) in
    let n = c.from-csrc_len.result in
    let second : List ℕ = take (length first - 4 * n) (drop (4 * n) first) in
    let passes = passes_csrcs bytes first second c.of-head.result n (are_bytes _ c.type_inv.packet) c.if-packet-lt-FIXED.false c.of-head.ensures (slice_to_end 12 bytes) c.if-head-ne2.false c.from-csrc_len.ensures c.if-rest-csrc_len.false (slice_to_end (4 * n) first) in
    let refused = reading_of-no_extension bytes second c.of-head.result _ passes (sym c.in_err-rest.ensures) in
    let e : c.from_residual.result ≡ reading_of bytes = grind (arith, common_steps, refused) in
    record { reading = e; gives = gives bytes _ (are_bytes _ c.type_inv.packet) e }

pub returns-in_err-payload : goal.returns-in_err-payload
returns-in_err-payload c =
    let bytes = c.args.packet.now in
    let first : List ℕ = take (length bytes - 12) (drop 12 bytes) in
    let n = c.from-csrc_len.result in
    let second : List ℕ = take (length first - 4 * n) (drop (4 * n) first) in
    let passes = passes_csrcs bytes first second c.of-head.result n (are_bytes _ c.type_inv.packet) c.if-packet-lt-FIXED.false c.of-head.ensures (slice_to_end 12 bytes) c.if-head-ne2.false c.from-csrc_len.ensures c.if-rest-csrc_len.false (slice_to_end (4 * n) first) in
    let size = c.in_ok-rest.field-0 in
    let third : List ℕ = take (length second - size) (drop size second) in
    let refused = reading_of-no_padding bytes second third c.of-head.result size _ passes (sym c.in_ok-rest.ensures) (slice_to_end size second) (sym c.in_err-payload.ensures) in
    let e : c.from_residual-in_err-payload.result ≡ reading_of bytes = grind (arith, common_steps, refused) in
    record { reading = e; gives = gives bytes _ (are_bytes _ c.type_inv.packet) e }

pub invariant_of-result : goal.invariant_of-result
invariant_of-result c =
    let bytes = c.args.packet.now in
    let first : List ℕ = take (length bytes - 12) (drop 12 bytes) in
    let n = c.from-csrc_len.result in
    let second : List ℕ = take (length first - 4 * n) (drop (4 * n) first) in
    let passes = passes_csrcs bytes first second c.of-head.result n (are_bytes _ c.type_inv.packet) c.if-packet-lt-FIXED.false c.of-head.ensures (slice_to_end 12 bytes) c.if-head-ne2.false c.from-csrc_len.ensures c.if-rest-csrc_len.false (slice_to_end (4 * n) first) in
    let size = c.in_ok-rest.field-0 in
    let third : List ℕ = take (length second - size) (drop size second) in
    holds bytes second third _ c.of-head.result size c.in_ok-payload.field-0 _ passes (sym c.in_ok-rest.ensures) (slice_to_end size second) (sym c.in_ok-payload.ensures) refl refl

pub returns : goal.returns
returns c =
    let bytes = c.args.packet.now in
    let e = sym (invariant_of-result c).read in
    record { reading = e; gives = gives bytes _ (are_bytes _ c.type_inv.packet) e }
