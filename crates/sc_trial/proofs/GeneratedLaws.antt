-- Generated captures are captures of RTP packets.
use Rattle.std.proofs.Common.{◌≡◌, ℕ, zero, suc, ◌+◌, ◌-◌, ◌*◌, ◌%◌, ◌^◌, ◌<◌, ◌≤◌, ◌==◌, [], ◌∷◌, false, nat_lt, length, map, codes, refl, ap, arith, rules, length-append}
use Rattle.std.proofs.lemmas.Bool.Decides.{nat_tests}
use Rattle.std.proofs.lemmas.List.FromFn.{length-map-range_with_len}
use Rattle.std.specs.List.{range_with_len, AllByRecursion}
use Rattle.rand_pcg.specs.Lcg.{Lcg}
use Rattle.sc_rtp.specs.Head.{head_bytes}
use Rattle.sc_rtp.specs.Packet.{plain_head}
use Rattle.sc_rtp.proofs.ReadingLaws.{reading_of-plain}
use Rattle.sc_rtpdump.specs.declared.kind.Kind.TheVariants.{Rtp}
use Rattle.sc_rtpdump.specs.Record.{Record, IsRecord}
use Rattle.sc_rtpdump.specs.Preamble.{IsPreamble}
use Rattle.sc_rtpdump.specs.Capture.{IsCapture}
use Rattle.sc_rtpdump.specs.Kind.{kind, kind_read}
use Rattle.sc_trial.specs.Draw.{generator, drawn}
use Rattle.sc_trial.specs.Generated.{standard_preamble, generated_packet, generated_record, generated_records, generated}
use Rattle.sc_trial.specs.GeneratedLaws.{IsWithinLimits}
use Rattle.sc_trial.proofs.DrawSteps.{length-drawn}

standard_preamble-is : IsPreamble standard_preamble
standard_preamble-is = record {
  line = codes "127.0.0.1/5004";
  fields = 0 ∷ 0 ∷ 0 ∷ 0 ∷ 0 ∷ 0 ∷ 0 ∷ 0 ∷ 127 ∷ 0 ∷ 0 ∷ 1 ∷ 19 ∷ 140 ∷ 0 ∷ 0 ∷ [];
  parts = refl;
  one_line = search rules;
  short_line = omega arith;
  all_fields = refl;
}

-- what holds of each number of a range holds of all that is made of them
all_made : (P : Record → Type 0) (f : ℕ → Record) (a n : ℕ) → ((j : ℕ) → j < a + n → P (f j)) → AllByRecursion P (map f (range_with_len a n))
all_made P f a zero each = tt
all_made P f a (suc n) each = (each a (omega arith), all_made P f (a + 1) n (λ j small. each j (omega arith)))

pub length-generated_packet : (g : Lcg) (from size i : ℕ) → 12 ≤ size → length (generated_packet g from size i) ≡ size
unfolding generated_packet
length-generated_packet g from size i least =
    let packet = head_bytes (plain_head 0 (i % 65536) (160 * i % 2 ^ 32) 0x12345678) in
    omega (arith, length-append packet (drawn g from (size - 12)), length-drawn g from (size - 12))

generated_record-fits : (g : Lcg) (count size : ℕ) → IsWithinLimits count size → (i : ℕ) → i < count → IsRecord (generated_record g (i * (size - 12)) size i)
generated_record-fits g count size within i small = record {
  plen = omega (arith, within.greatest);
  offset = omega (arith, within.most);
  body = omega (arith, within.greatest, length-generated_packet g (i * (size - 12)) size i within.least);
}

pub generated-capture : (seed count size : ℕ) → IsWithinLimits count size → IsCapture (generated seed count size) standard_preamble (generated_records (generator seed) count size)
unfolding generated
generated-capture seed count size within = record {
  preamble_is = standard_preamble-is;
  records_are = all_made IsRecord (λ i. generated_record (generator seed) (i * (size - 12)) size i) 0 count
      (λ i small. generated_record-fits (generator seed) count size within i (omega arith));
  parts = refl;
}

pub generated-count : (g : Lcg) (count size : ℕ) → length (generated_records g count size) ≡ count
generated-count g count size = length-map-range_with_len (λ i. generated_record g (i * (size - 12)) size i) 0 count

-- a whole packet of a plain head is of the kind Rtp
generated_record-kind : (g : Lcg) (from size i : ℕ) → 12 ≤ size → kind (generated_record g from size i) ≡ Rtp
unfolding kind generated_packet
generated_record-kind g from size i least =
    let packet = generated_packet g from size i in
    let long : length (generated_packet g from size i) ≡ size = length-generated_packet g from size i least in
    let there : (size == 0) ≡ false = grind (arith, nat_tests) in
    let whole : nat_lt (length (generated_packet g from size i)) size ≡ false = grind (arith, nat_tests) in
    let alone : nat_lt size (length (generated_packet g from size i)) ≡ false = grind (arith, nat_tests) in
    let read = reading_of-plain 0 (i % 65536) (160 * i % 2 ^ 32) 0x12345678 (drawn g from (size - 12)) (omega arith) (omega arith) (omega arith) (omega arith) in
    rw (there, whole, alone) (ap kind_read read)

pub generated-kind : (g : Lcg) (count size : ℕ) → IsWithinLimits count size → AllByRecursion (λ e. kind e ≡ Rtp) (generated_records g count size)
generated-kind g count size within =
    all_made (λ e. kind e ≡ Rtp) (λ i. generated_record g (i * (size - 12)) size i) 0 count
    (λ i small. generated_record-kind g (i * (size - 12)) size i within.least)
