-- The parts of a trial, one after the other.
use Rattle.std.proofs.Common.{◌≡◌, ◌⊎◌, inl, inr, ℕ, zero, suc, ◌+◌, ◌-◌, ◌*◌, ◌^◌, ◌<◌, ◌≤◌, Bool, true, false, cond, List, [], ◌∷◌, ◌++◌, length, drop, map, filter, Option, None, Some, is_none, is_some, nat_lt, Result, Ok, Err, IsOk, IsErr, refl, sym, ap, ◌∙◌, subst, arith, length-append}
use Rattle.std.specs.Prelude.{count_by}
use Rattle.std.specs.List.{AllByRecursion, range_with_len}
use Rattle.std.proofs.Math.Nat.{mul-le-mul_right}
use Rattle.std.proofs.Math.Seq.{drop-append_seam}
use Rattle.std.proofs.lemmas.Bool.Decides.{nat_tests}
use Rattle.std.proofs.lemmas.List.Sums.{sum_by-cons}
use Rattle.std.proofs.lemmas.Nat.{mul-le}
use Rattle.sc_matrix.specs.Layout.{cut}
use Rattle.sc_matrix.specs.Module.{IsByte}
use Rattle.sc_outside.specs.Ends.{Job, Ends}
use Rattle.sc_outside.specs.GrowPort.{GrowState, told_by_grow}
use Rattle.sc_outside.proofs.EndsLaws.{Ends-due}
use Rattle.sc_channel.specs.Channel.{IsChannel}
use Rattle.sc_channel.specs.Flags.{set_count}
use Rattle.sc_channel.specs.Loss.{IsAdmissible}
use Rattle.sc_rtpdump.specs.declared.kind.Kind.TheVariants.{Rtp}
use Rattle.sc_rtpdump.specs.declared.thin.Dropped.{Dropped}
use Rattle.sc_rtpdump.specs.declared.thin.DropFault.{DropFault}
use Rattle.sc_rtpdump.specs.Capture.{IsCapture, AreBytes, Parts, Reading, no_preamble, reads, records_bytes}
use Rattle.sc_rtpdump.specs.Kind.{kind}
use Rattle.sc_rtpdump.specs.Record.{Record, IsRecord, Front, ends, breaks, starts, front_of, record_bytes}
use Rattle.sc_rtpdump.proofs.CaptureLaws.{length-record_bytes}
use Rattle.sc_rtpdump.specs.Thin.{kept, end_at, rest_end, thin_end, thinning}
use Rattle.sc_code.specs.Code.{Code, IsCode}
use Rattle.sc_code.specs.declared.code.CodeFile.{CodeFile}
use Rattle.sc_slots.specs.Frame.{IsWidth}
use Rattle.sc_slots.specs.Protected.{Protection, has_kind, rtp_part, packet_len, protection_of, protecting, protecting_within}
use Rattle.sc_repair.specs.Repairing.{repairing}
use Rattle.sc_repair.specs.Restoration.{IsSentBy, arrived}
use Rattle.sc_repair.proofs.Restoration.{each_comes_back, values-are_outcomes}
use Rattle.rand_pcg.specs.Lcg.{Lcg}
use Rattle.sc_trial.specs.declared.outcome.Trial.{Trial}
use Rattle.sc_trial.specs.declared.outcome.TrialFault.{TrialFault}
use Rattle.sc_trial.specs.Draw.{generator}
use Rattle.sc_trial.specs.Generated.{standard_preamble, generated_packet, generated_record, generated_records, generated}
use Rattle.sc_trial.specs.GeneratedLaws.{IsWithinLimits}
use Rattle.sc_trial.specs.Loss.{generated_loss}
use Rattle.sc_trial.specs.Trial.{trial_records, trial_loss, trial_values, trial_taken, tried, trial_of, IsTrial}
use Rattle.sc_trial.specs.TrialSteps.{ProtectsAs, ThinsAs, RepairsAs, back_count}
use Rattle.sc_trial.proofs.BackSteps.{AreApart, walk, pieces}
use Rattle.sc_trial.proofs.GeneratedLaws.{length-generated_packet, generated-capture, generated-count, generated-kind}

-- ---- a call at a port that grows

-- What a call answers, where neither a write failed nor memory ran out, is what is due, and so is what it gave.
pub grow-due : {A B : Type 0} (job : Job (Result A B)) (old new : GrowState) (a : A) → Ends job (told_by_grow old) (told_by_grow new) (Ok a)
    → IsErr job.write_failed → IsErr job.no_memory → old.given ≡ [] → ((job.whole old.left).answer ≡ Ok a) × ((job.whole old.left).text ≡ new.given)
grow-due job old new a ended unwritten no_room none =
    elim (Ends-due job (told_by_grow old) (told_by_grow new) (Ok a) ended) [
      | inl due ↦ (due.answered, sym (due.given ∙ ap (λ l. l ++ (job.whole old.left).text) none))
      | inr (inl read) ↦ absurd (omega (arith, read.1.more))
      | inr (inr (inl write)) ↦ absurd (cc (subst IsErr (sym write.0) unwritten))
      | inr (inr (inr memory)) ↦ absurd (cc (subst IsErr (sym memory) no_room))
    ]

-- ---- thinning

end-ok : (flags : List Bool) (n : ℕ) (front : Front) (d : Dropped) → end_at flags n front ≡ Ok d → d ≡ record { records = length flags; lost = set_count flags }
end-ok flags n (breaks break) d e = absurd (cc)
end-ok flags n (starts rec rest) d e = absurd (cc)
end-ok flags n ends d e = by_test (nat_lt n (length flags)) e
  where
    by_test : (b : Bool) → cond b (Err (DropFault.Fewer n)) (Ok (record { records = length flags; lost = set_count flags })) ≡ Ok d → d ≡ record { records = length flags; lost = set_count flags }
    by_test true e = absurd (cc)
    by_test false e = cc

thin-ok : (flags : List Bool) (reading : Reading) (d : Dropped) → thin_end flags reading ≡ Ok d → d ≡ record { records = length flags; lost = set_count flags }
unfolding rest_end
thin-ok flags no_preamble d e = absurd (cc)
thin-ok flags (reads preamble parts) d e = by_test (nat_lt (length flags) (length parts.records)) e
  where
    by_test : (b : Bool) → cond b (Err DropFault.More) (end_at flags (length parts.records) (front_of parts.tail)) ≡ Ok d → d ≡ record { records = length flags; lost = set_count flags }
    by_test true e = absurd (cc)
    by_test false e = end-ok flags (length parts.records) (front_of parts.tail) d e

-- ---- the size of a packet

-- a protected packet has at most 64 symbols, each narrower than a frame
packet_small : (k r m size : ℕ) → k + r ≤ 64 → 1 ≤ k → size ≤ 1472 → IsWidth size k m → 24 + (k + r) * m ≤ 100000
packet_small k r m size few some small w =
    let all : 1 * (size + 6) ≤ k * (size + 6) = mul-le-mul_right (size + 6) some in
    let narrow : m ≤ 1478 = omega (arith, w.least (size + 6) (omega (arith, all)), small) in
    let product : (k + r) * m ≤ 64 * 1478 = mul-le (k + r) m 64 1478 few narrow in
    omega (arith, product)

pub packet_bound : (k r k' m size : ℕ) (code : Code ℕ) → k ≡ code.k → r ≡ code.r → k' ≡ code.k → IsCode IsByte code → size ≤ 1472 → IsWidth size k' m → 24 + (k + r) * m ≤ 100000
packet_bound k r k' m size code k_is r_is k_is' is small w =
    packet_small k r m size (omega (arith, k_is, r_is, is.in_range.size_limit)) (omega (arith, k_is, is.in_range.some_symbol)) small (subst (λ k. IsWidth size k m) (k_is' ∙ sym k_is) w)

-- ---- the packets

all_rtp : (es : List Record) → AllByRecursion (λ e. kind e ≡ Rtp) es → rtp_part es ≡ es
all_rtp [] h = refl
all_rtp (e ∷ es) h = rw (h.0) (ap (λ l. e ∷ l) (all_rtp es h.1))

-- what holds of each number from a on holds of all that is made of them
all_from : (P : Record → Type 0) (f : ℕ → Record) (a n : ℕ) → ((j : ℕ) → a ≤ j → P (f j)) → AllByRecursion P (map f (range_with_len a n))
all_from P f a zero each = tt
all_from P f a (suc n) each = (each a (omega arith), all_from P f (a + 1) n (λ j far. each j (omega arith)))

apart_from : (f : ℕ → Record) → ((i j : ℕ) → f i ≡ f j → i ≡ j) → (a n : ℕ) → AreApart (map f (range_with_len a n))
apart_from f one a zero = tt
apart_from f one a (suc n) =
    (all_from (λ e. f a ≡ e → ⊥) f (a + 1) n (λ j far same. omega (arith, one a j same, far)), apart_from f one (a + 1) n)

generated-apart : (g : Lcg) (count size : ℕ) → AreApart (generated_records g count size)
generated-apart g count size =
    apart_from (λ i. generated_record g (i * (size - 12)) size i)
    (λ i j same. let offsets : 20 * i ≡ 20 * j = ap (λ e. e.offset) same in omega (arith, offsets)) 0 count

generated-fit : (seed count size : ℕ) → IsWithinLimits count size → AllByRecursion IsRecord (generated_records (generator seed) count size)
generated-fit seed count size within = (generated-capture seed count size within).records_are

generated-lengths : (g : Lcg) (count size : ℕ) → 12 ≤ size → AllByRecursion (λ e. length (record_bytes e) ≡ 8 + size) (generated_records g count size)
generated-lengths g count size least =
    all_from (λ e. length (record_bytes e) ≡ 8 + size) (λ i. generated_record g (i * (size - 12)) size i) 0 count
    (λ i far. omega (arith, length-record_bytes (generated_record g (i * (size - 12)) size i), length-generated_packet g (i * (size - 12)) size i least))

length-records_bytes : (len : ℕ) (es : List Record) → AllByRecursion (λ e. length (record_bytes e) ≡ len) es → length (records_bytes es) ≡ length es * len
length-records_bytes len [] h = omega arith
length-records_bytes len (e ∷ es) h =
    let product : (length es + 1) * len ≡ length es * len + len = omega arith in
    omega (arith, length-append (record_bytes e) (records_bytes es), h.0, length-records_bytes len es h.1, product)

-- what comes back and what is missed add up
some_or_none : (values : List (Option (List (List ℕ)))) → count_by is_some values + count_by is_none values ≡ length values
some_or_none [] = refl
some_or_none (v ∷ values) =
    omega (arith, sum_by-cons (λ w. cond (is_some w) 1 0) v values, sum_by-cons (λ w. cond (is_none w) 1 0) v values, some_or_none values, one v)
  where
    one : (w : Option (List (List ℕ))) → cond (is_some w) 1 0 + cond (is_none w) 1 0 ≡ 1
    one None = refl
    one (Some b) = refl

-- ---- the trial

module _ (file : CodeFile) (seed count size : ℕ) (within : IsWithinLimits count size) where
  abbrev input : List ℕ
  input = generated seed count size

  abbrev es : List Record
  es = trial_records seed count size

  abbrev flags : List Bool
  flags = trial_loss file seed count

  abbrev values : List (Option (List (List ℕ)))
  values = trial_values file seed count size

  rtp_is : rtp_part es ≡ es
  rtp_is = all_rtp es (generated-kind (generator seed) count size within)

  count_is : length es ≡ count
  count_is = generated-count (generator seed) count size

  one_each : length values ≡ count
  one_each = (values-are_outcomes file size es flags).0 ∙ ap length rtp_is ∙ count_is

  pub tried-is : IsTrial file seed count size (tried file seed count size)
  tried-is = record {
    slots = refl;
    lost = refl;
    values = values;
    one_each = one_each;
    outcomes = λ t small. (values-are_outcomes file size es flags).1 t (omega (arith, small, ap length rtp_is, count_is));
    equal = refl;
    missed = refl;
  }

  -- the records, and those that come back, behind the preamble
  records_behind : drop 44 input ≡ records_bytes es
  records_behind = ap (drop 44) (generated-capture seed count size within).parts ∙ drop-append_seam standard_preamble (records_bytes es)

  pieces_are : cut count (8 + size) (drop 44 input) ≡ map record_bytes es
  pieces_are =
      ap (cut count (8 + size)) records_behind
      ∙ ap (λ n. cut n (8 + size) (records_bytes es)) (sym count_is)
      ∙ pieces (8 + size) es (generated-lengths (generator seed) count size within.least)

  pub input-length : length input ≡ 44 + count * (8 + size)
  input-length =
      let len : length (records_bytes es) ≡ length es * (8 + size) = length-records_bytes (8 + size) es (generated-lengths (generator seed) count size within.least) in
      let product : length es * (8 + size) ≡ count * (8 + size) = ap (λ n. n * (8 + size)) count_is in
      omega (arith, ap length (generated-capture seed count size within).parts, length-append standard_preamble (records_bytes es), len, product)

  back_is : (back : List ℕ) → back ≡ standard_preamble ++ records_bytes (kept (map is_none values) es)
      → back_count (cut count (8 + size) (drop 44 input)) (drop 44 back) ≡ count_by is_some values
  back_is back same =
      ap (λ l. back_count l (drop 44 back)) pieces_are
      ∙ ap (λ l. back_count (map record_bytes es) (drop 44 l)) same
      ∙ ap (back_count (map record_bytes es)) (drop-append_seam standard_preamble (records_bytes (kept (map is_none values) es)))
      ∙ walk es values (one_each ∙ sym count_is) (generated-fit seed count size within) (generated-apart (generator seed) count size)

  -- what the parts of a trial came to
  abbrev pub Course : List ℕ → List ℕ → List ℕ → Dropped → Type 0
  Course sent left back dropped = ProtectsAs file size input sent × ThinsAs flags sent left dropped × RepairsAs file left back

  restored : IsSentBy file size input standard_preamble es flags → (sent left back : List ℕ) (dropped : Dropped) → Course sent left back dropped
      → back ≡ standard_preamble ++ records_bytes (kept (map is_none values) es)
  restored by sent left back dropped parts =
      let same_left : arrived file size input flags ≡ left = ap (λ s. ((thinning flags).whole s).text) parts.0.given ∙ parts.1.given in
      sym parts.2
      ∙ ap (λ l. ((repairing file).whole l).text) (sym same_left)
      ∙ ap (λ d. d.text) (each_comes_back file size input standard_preamble es flags by)
      ∙ ap (λ rtp. standard_preamble ++ records_bytes (kept (map is_none values) rtp)) rtp_is

  pub back-length : IsSentBy file size input standard_preamble es flags → (sent left back : List ℕ) (dropped : Dropped) → Course sent left back dropped → 44 ≤ length back
  back-length by sent left back dropped course =
      let behind = records_bytes (kept (map is_none values) es) in
      omega (arith, ap length (restored by sent left back dropped course), length-append standard_preamble behind)

  -- what the parts gave is the course of the trial: the loss is told by another number that is the deadline, and the capture
  -- by itself and by a copy
  pub went : (capture copy : List ℕ) (deadline : ℕ) (loss : List Bool) → capture ≡ input → copy ≡ input → deadline ≡ file.channel.t
      → IsChannel file.channel → IsCode IsByte file.code → AreBytes copy
      → loss ≡ generated_loss (generator seed) file.channel (count + deadline) → length loss ≡ count + deadline → IsAdmissible file.channel loss
      → (sent left back : List ℕ) (dropped : Dropped) → ProtectsAs file size capture sent → ThinsAs loss sent left dropped → RepairsAs file left back
      → IsSentBy file size input standard_preamble es flags × Course sent left back dropped
  went capture copy deadline loss capture_is copy_is deadline_is channel code bytes loss_is flag_count admissible sent left back dropped protects thins repairs =
      let loss_is' : loss ≡ flags = loss_is ∙ ap (λ n. generated_loss (generator seed) file.channel (count + n)) deadline_is in
      let protects' : ProtectsAs file size input sent = subst (λ l. ProtectsAs file size l sent) capture_is protects in (
        record {
          channel = channel;
          code = code;
          bytes = subst AreBytes copy_is bytes;
          capture = generated-capture seed count size within;
          is_protected = protects'.answered;
          admissible = subst (IsAdmissible file.channel) loss_is' admissible;
          flag_count = omega (arith, ap length loss_is', flag_count, deadline_is, ap length rtp_is, count_is);
        },
        (protects', subst (λ l. ThinsAs l sent left dropped) loss_is' thins, repairs),
      )

  -- the count, told of slices of the same bytes
  pub sized : (copy back slice : List ℕ) (equal size' : ℕ) → size' ≡ size → copy ≡ input → slice ≡ back
      → equal ≡ back_count (cut count (8 + size') (drop 44 copy)) (drop 44 slice) → equal ≡ back_count (cut count (8 + size) (drop 44 input)) (drop 44 back)
  sized copy back slice equal size' size_is copy_is slice_is equal_is =
      equal_is
      ∙ ap (λ n. back_count (cut count (8 + n) (drop 44 copy)) (drop 44 slice)) size_is
      ∙ ap (λ l. back_count (cut count (8 + size) (drop 44 l)) (drop 44 slice)) copy_is
      ∙ ap (λ l. back_count (cut count (8 + size) (drop 44 input)) (drop 44 l)) slice_is

  pub trial-gives : IsSentBy file size input standard_preamble es flags → packet_len (protection_of file size) ≤ 65527
      → (sent left back : List ℕ) (dropped : Dropped) → Course sent left back dropped
      → (equal : ℕ) → equal ≡ back_count (cut count (8 + size) (drop 44 input)) (drop 44 back)
      → trial_of file seed count size ≡ Ok (record { slots = dropped.records; lost = dropped.lost; equal = equal; missed = count - equal })
  trial-gives by limit sent left back dropped course equal equal_is =
      let narrow : nat_lt 65527 (packet_len (protection_of file size)) ≡ false = grind (arith, nat_tests, limit) in
      let done : dropped ≡ record { records = length flags; lost = set_count flags } = thin-ok flags _ dropped course.1.answered in
      let came : equal ≡ count_by is_some values = equal_is ∙ back_is back (restored by sent left back dropped course) in
      let slots_is : dropped.records ≡ count + file.channel.t =
      omega (arith, ap (λ d. d.records) done, by.flag_count, ap length rtp_is, count_is) in
      let lost_is : dropped.lost ≡ set_count flags = ap (λ d. d.lost) done in
      let missed_is : count - equal ≡ count_by is_none values = omega (arith, some_or_none values, one_each, came) in
      rw (narrow, slots_is, lost_is, missed_is, came) refl

  pub gives-is : (trial : Trial) → trial_of file seed count size ≡ Ok trial → IsTrial file seed count size trial
  gives-is trial e = subst (IsTrial file seed count size) (by_test (nat_lt 65527 (packet_len (protection_of file size))) e) tried-is
    where
      by_test : (b : Bool) → cond b (Err (TrialFault.TooWide (packet_len (protection_of file size)))) (Ok (tried file seed count size)) ≡ Ok trial → tried file seed count size ≡ trial
      by_test true e = absurd (cc)
      by_test false e = cc
