-- Restoration: of a protected capture each RTP record comes back or is missed; over a channel that its code meets all of them
-- do, and each in time.
use Rattle.std.proofs.Common.{◌≡◌, ◌⊎◌, inl, inr, ℕ, zero as naught, suc, ◌+◌, ◌*◌, ◌-◌, ◌<◌, ◌≤◌, min, Bool, true, false, cond, List, [], ◌∷◌, ◌++◌, length, get_or, take, drop, map, replicate, Contains, Option, Some, None, is_none, Ok, refl, sym, ap, ap₂, ◌∙◌, subst, arith, append_assoc, append-nil}
use Rattle.std.specs.Prelude.{⊤, count_by}
use Rattle.std.specs.List.{AllByRecursion, flat_map, range_with_len}
use Rattle.std.proofs.lemmas.Bool.{cases_lt}
use Rattle.std.proofs.lemmas.List.{length-append, length-map, length-take-le, take_all, take-append-drop, length-drop, get_or-take, get_or-drop, get_or-map, get_or_append_left}
use Rattle.std.proofs.lemmas.List.Elements.{Contains-append_cases}
use Rattle.std.proofs.lemmas.List.FromFn.{length-map-range_with_len, take-map-range_with_len}
use Rattle.std.proofs.lemmas.List.Sums.{sum_by-cons}
use Rattle.sc_field.specs.Gf256.{gf256_product}
use Rattle.sc_outside.specs.declared.journal.Move.{Move}
use Rattle.sc_outside.specs.Ends.{IsPrefix}
use Rattle.sc_outside.specs.Port.{Told}
use Rattle.sc_rtpdump.specs.Record.{Record, IsRecord, empty_record, record_bytes}
use Rattle.sc_rtpdump.specs.Capture.{IsCapture, Parts, reading_of, records_bytes}
use Rattle.sc_rtpdump.specs.Thin.{kept, thinned, thin_text}
use Rattle.sc_rtpdump.proofs.CaptureLaws.{front_of-end}
use Rattle.sc_rtpdump.proofs.ReadingLaws.{reading_of-capture}
use Rattle.sc_rtpdump.proofs.ThinLaws.{kept-append, records_bytes-append}
use Rattle.sc_code.specs.Stream.{block_at, zero_block}
use Rattle.sc_code.specs.Determined.{IsKept, Meets}
use Rattle.sc_code.specs.declared.code.CodeFile.{CodeFile}
use Rattle.sc_code.proofs.MeetsLaws.{IsKept-in_range}
use Rattle.sc_slots.specs.Slot.{Slot}
use Rattle.sc_slots.specs.ProtectSteps.{source_stream}
use Rattle.sc_slots.specs.Protected.{Protection, protection_of, rtp_part, protected, stream, slot_at}
use Rattle.sc_slots.specs.Taken.{Taken, IsTakenAt, one_past, known_end}
use Rattle.sc_slots.specs.Repair.{Fits, HasNoClash, AllHave, IsSettledAs, IsOutcome}
use Rattle.sc_slots.specs.Sent.{AreLeft, HasEnds, flushed, IsSentOver, left_by}
use Rattle.sc_slots.specs.Text.{AreOutcomes}
use Rattle.sc_slots.proofs.CaptureSteps.{protected-capture}
use Rattle.sc_slots.proofs.EndLaws.{AllBelow-one_past, one_past-le, known_end_is, known_end-le, block_recovered, outcomes_are_blocks}
use Rattle.sc_slots.proofs.FitLaws.{AllFrom, Fits-zeros, block_at-take}
use Rattle.sc_slots.proofs.LeftLaws.{AreLeft-left_by}
use Rattle.sc_slots.proofs.PromptLaws.{IsWrittenBefore-less}
use Rattle.sc_slots.proofs.ProtectedLaws.{length-source_stream}
use Rattle.sc_slots.proofs.SentLaws.{IsSentOver-met, IsAdmissible-take, end_arrives}
use Rattle.sc_slots.proofs.SettledLaws.{AllFrom-weaker, HasNoClash-iff_consistent, AllHave-later, AllHave-shorter, IsSettled-unique}
use Rattle.sc_repair.specs.declared.repair.Repaired.{Repaired}
use Rattle.sc_repair.specs.Readings.{block_text, is_bad_block}
use Rattle.sc_repair.specs.Values.{outcomes}
use Rattle.sc_repair.specs.Prompt.{IsPrompt}
use Rattle.sc_repair.specs.Restoration.{IsSentBy, IsSentThrough, sent_records, arrived, arrived_slots, came_back, some_back, all_back, IsTimely}
use Rattle.sc_repair.specs.Repairing.{values_text, is_bad_value, is_stranger, bad_among, read_as, slots_in, taken_of, put_of, values_of, values_so_far, last_values, missed_of, numbers, text_by, text_so_far, due_at_end, due_behind, due_by, due_of, first_refused, repairing}
use Rattle.sc_repair.proofs.Growth.{values_text-append, bad_among-lacks}
use Rattle.sc_repair.proofs.JobLaws.{IsPrefix-front}
use Rattle.sc_repair.proofs.ValueLaws.{begins, put_values-le, put_values-one, put_values-put, outcomes-length, outcomes-at, outcomes-take, outcome_at-is, outcomes-are}
use Rattle.sc_repair.proofs.SentSlots.{left_by-append, left_by-map, left_in}
use Rattle.sc_repair.proofs.SentBlocks.{IsWhole, all_at, frame-text, zeros-text}
use Rattle.sc_repair.proofs.SentStream.{stream-flushed, length-stream, IsStream-sources, source_block, flush_block, block-good, sent_slot, left-ends, left-below, left-fits, position-lacks}
use Rattle.sc_repair.proofs.SentRecords.{AreSendable, sent_record, left_records, came, taken_by, sent-read, slots-came, taken-came, came-width, none_refused}
use Rattle.sc_repair.proofs.SentCaptures.{is_protectable, protected_text, are_sendable}

-- ---- lists

all_kept : (P : Record → Type 0) (flags : List Bool) (es : List Record) → AllByRecursion P es → AllByRecursion P (kept flags es)
all_kept P [] es h = tt
all_kept P (flag ∷ flags) [] h = tt
all_kept P (true ∷ flags) (e ∷ es) h = all_kept P flags es h.1
all_kept P (false ∷ flags) (e ∷ es) h = (h.0, all_kept P flags es h.1)

all_take : (P : Record → Type 0) (n : ℕ) (es : List Record) → AllByRecursion P es → AllByRecursion P (take n es)
all_take P naught es h = tt
all_take P (suc n) [] h = tt
all_take P (suc n) (e ∷ es) h = (h.0, all_take P n es h.1)

map-range-split : {X : Type 0} (f : ℕ → X) (a n d : ℕ) → map f (range_with_len a (n + d)) ≡ map f (range_with_len a n) ++ map f (range_with_len (a + n) d)
map-range-split f a naught d = let e : 0 + d ≡ d = omega arith in let g : a ≡ a + 0 = omega arith in ap (λ n. map f (range_with_len a n)) e ∙ ap (λ b. map f (range_with_len b d)) g
map-range-split f a (suc n) d =
    let e : suc n + d ≡ suc (n + d) = omega arith in
    let g : a + 1 + n ≡ a + suc n = omega arith in
    ap (λ n. map f (range_with_len a n)) e ∙ ap (λ l. f a ∷ l) (map-range-split f (a + 1) n d ∙ ap (λ b. map f (range_with_len (a + 1) n) ++ map f (range_with_len b d)) g)

-- what the front of a loss keeps, the loss keeps
kept-front : (v : ℕ) (loss : List Bool) (i : ℕ) → v ≤ length loss → IsKept (take v loss) i → (i < v) × IsKept loss i
kept-front v loss i le h =
    let within : i < length (take v loss) = IsKept-in_range (take v loss) i h in
    let low : i < v = omega (arith, within, length-take-le v loss le) in
    (low, sym (get_or-take v loss i true low) ∙ h)

length-left : {X : Type 0} (f : ℕ → X) (flags : List Bool) (ns : List ℕ) → length (left_by flags (map f ns)) ≡ length (left_by flags ns)
length-left f flags ns = ap length (sym (left_by-map f flags ns)) ∙ length-map (left_by flags ns) f

-- where no value is missed, all records are kept
none_missed : {X : Type 0} (xs : List X) → count_by is_none (map Some xs) ≡ 0
none_missed [] = refl
none_missed (x ∷ xs) = omega (arith, sum_by-cons (λ v. cond (is_none v) 1 0) (Some x) (map Some xs), none_missed xs)

none_lost : {X : Type 0} (xs : List X) (es : List Record) → length xs ≡ length es → kept (map is_none (map Some xs)) es ≡ es
none_lost [] [] n = refl
none_lost [] (e ∷ es) n = absurd (omega arith)
none_lost (x ∷ xs) [] n = absurd (omega arith)
none_lost (x ∷ xs) (e ∷ es) n = ap (λ l. e ∷ l) (none_lost xs es (omega arith))

some_written : (xs : List (List (List ℕ))) → values_text (map Some xs) ≡ flat_map block_text xs
some_written [] = refl
some_written (x ∷ xs) = ap (λ s. block_text x ++ s) (some_written xs)

-- ---- values of a stream

-- a value is missed, or this block
abbrev IsOf : List (List ℕ) → Option (List (List ℕ)) → Type 0
IsOf block None = ⊤
IsOf block (Some b) = b ≡ block

value-good : (block : List (List ℕ)) (x : Option (List (List ℕ))) → IsOf block x → is_bad_block block ≡ false → is_bad_value x ≡ false
value-good block None h good = refl
value-good block (Some b) h good = ap is_bad_block h ∙ good

-- what values write is the records whose blocks they have
records_written : (blocks : ℕ → List (List ℕ)) (values : List (Option (List (List ℕ)))) (es : List Record) → length values ≡ length es
    → ((i : ℕ) → i < length es → IsOf (blocks i) (get_or values i None)) → ((i : ℕ) → i < length es → block_text (blocks i) ≡ record_bytes (get_or es i empty_record))
    → values_text values ≡ records_bytes (kept (map is_none values) es)
records_written blocks [] [] n are text = refl
records_written blocks [] (e ∷ es) n are text = absurd (omega arith)
records_written blocks (x ∷ values) [] n are text = absurd (omega arith)
records_written blocks (None ∷ values) (e ∷ es) n are text =
    records_written (λ i. blocks (suc i)) values es (omega arith) (λ i lt. are (suc i) (omega arith)) (λ i lt. text (suc i) (omega arith))
records_written blocks (Some b ∷ values) (e ∷ es) n are text =
    ap₂ (λ a s. a ++ s) (ap block_text (are 0 (omega arith)) ∙ text 0 (omega arith))
    (records_written (λ i. blocks (suc i)) values es (omega arith) (λ i lt. are (suc i) (omega arith)) (λ i lt. text (suc i) (omega arith)))

-- and nothing where the block writes nothing
nothing_written : (block : List (List ℕ)) (values : List (Option (List (List ℕ)))) → block_text block ≡ [] → ((i : ℕ) → i < length values → IsOf block (get_or values i None)) → values_text values ≡ []
nothing_written block [] none are = refl
nothing_written block (None ∷ values) none are = nothing_written block values none (λ i lt. are (suc i) (omega arith))
nothing_written block (Some b ∷ values) none are =
    ap₂ (λ a s. a ++ s) (ap block_text (are 0 (omega arith)) ∙ none) (nothing_written block values none (λ i lt. are (suc i) (omega arith)))

-- ---- slots of one width

module _ (file : CodeFile) (m : ℕ) where
  last_at : (slots : List Slot) → ((x : Slot) → Contains slots x → x.m ≡ m) → last_values file slots ≡ outcomes file.code.k m file.channel.t (taken_of file slots) (one_past (taken_of file slots))
  unfolding outcomes
  last_at [] each = refl
  last_at (x ∷ slots) each = ap (λ (n : ℕ). outcomes file.code.k n file.channel.t (taken_of file (x ∷ slots)) (one_past (taken_of file (x ∷ slots)))) (each x (0, omega arith, refl))

  missed_at : (slots : List Slot) → ((x : Slot) → Contains slots x → x.m ≡ m) → missed_of file slots ≡ count_by is_none (outcomes file.code.k m file.channel.t (taken_of file slots) (known_end (taken_of file slots)))
  unfolding outcomes
  missed_at [] each = refl
  missed_at (x ∷ slots) each = ap (λ (n : ℕ). count_by is_none (outcomes file.code.k n file.channel.t (taken_of file (x ∷ slots)) (known_end (taken_of file (x ∷ slots))))) (each x (0, omega arith, refl))

  no_values : (a : List (Option (List (List ℕ)))) → length a ≤ 0 → a ≡ []
  no_values [] le = refl
  no_values (x ∷ a) le = absurd (omega arith)

  values_at : (slots : List Slot) → ((x : Slot) → Contains slots x → x.m ≡ m) → values_of file slots ≡ put_of file m (taken_of file slots) (one_past (taken_of file slots))
  values_at [] each = no_values (put_of file 0 [] 0) (put_values-le file.code.k 0 file.channel.t [] 0) ∙ sym (no_values (put_of file m [] 0) (put_values-le file.code.k m file.channel.t [] 0))
  values_at (x ∷ slots) each = ap (λ (n : ℕ). put_of file n (taken_of file (x ∷ slots)) (one_past (taken_of file (x ∷ slots)))) (each x (0, omega arith, refl))

-- ---- what the blocks write

module _ (p : Protection) where
  sources_text : (n : ℕ) (es : List Record) → AllByRecursion IsWhole es → ((i : ℕ) → i < length es → 6 + length (get_or es i empty_record).body ≤ p.code.k * p.m)
      → flat_map block_text (take n (source_stream p es)) ≡ records_bytes (take n es)
  sources_text naught es whole room = refl
  sources_text (suc n) [] whole room = refl
  sources_text (suc n) (e ∷ es) whole room =
      ap₂ (λ a b. a ++ b) (frame-text p e whole.0 (room 0 (omega arith))) (sources_text n es whole.1 (λ i lt. room (suc i) (omega arith)))

-- ---- readings

-- what is due for records behind a preamble, none of which is refused, and whose last values aren't bad
due_for : (file : CodeFile) (bytes preamble : List ℕ) (es : List Record) → IsCapture bytes preamble es → first_refused file es ≡ None → bad_among (last_values file (slots_in file es)) ≡ None
    → (repairing file).whole bytes ≡ record { answer = Ok (numbers file es); text = preamble ++ values_text (last_values file (slots_in file es)); at_end = true }
due_for file bytes preamble es c none good =
    let parts : Parts = record { records = es; tail = [] } in
    ap (due_of file) (reading_of-capture bytes preamble es c)
    ∙ ap (due_by file preamble parts) none
    ∙ ap (due_behind file preamble es) (front_of-end [] refl)
    ∙ ap (due_at_end file preamble es) good

so_far_for : (file : CodeFile) (bytes preamble : List ℕ) (es : List Record) → IsCapture bytes preamble es → first_refused file es ≡ None
    → (repairing file).so_far bytes ≡ preamble ++ values_text (values_so_far file es)
so_far_for file bytes preamble es c none =
    ap (text_so_far file) (reading_of-capture bytes preamble es c)
    ∙ ap (λ o. preamble ++ text_by file es o) none

-- ---- what was sent

module _ (file : CodeFile) (size : ℕ) (input preamble : List ℕ) (records : List Record) (flags : List Bool) (sent : IsSentBy file size input preamble records flags) where
  abbrev p : Protection
  p = protection_of file size

  abbrev rtp : List Record
  rtp = rtp_part records

  abbrev all : ℕ
  all = length (rtp_part records) + file.channel.t

  abbrev sources : List (List (List ℕ))
  sources = source_stream (protection_of file size) (rtp_part records)

  -- the taken slots of all, and of the first n
  abbrev taken_slots : ℕ → List (Taken ℕ)
  taken_slots n = taken_by file size (rtp_part records) flags n

  can : AreSendable file size (rtp_part records)
  can = are_sendable file size input preamble records flags sent

  is_left : AreLeft 0 gf256_product (λ i. file.code) p.m flags (flushed file.code.k p.m file.channel.t sources) (taken_slots all)
  is_left =
      let n = length-stream p rtp in
      let whole = AreLeft-left_by 0 gf256_product (λ i. file.code) p.m 1 (length rtp) (stream p rtp) flags (sent.flag_count ∙ sym n) in
      subst (λ s. AreLeft 0 gf256_product (λ i. file.code) p.m flags s (taken_slots all)) (stream-flushed p rtp)
      (subst (λ (c : ℕ). AreLeft 0 gf256_product (λ i. file.code) p.m flags (stream p rtp) (left_by flags (map (sent_slot p rtp) (range_with_len 0 c)))) n whole)

  -- ---- captures

  slots_capture : IsCapture (protected p preamble records) preamble (sent_records file size records)
  slots_capture = protected-capture p input preamble records sent.capture (is_protectable file size input preamble records flags sent)

  first_capture : (n : ℕ) → IsCapture (thinned flags preamble (take n (sent_records file size records))) preamble (kept flags (take n (sent_records file size records)))
  first_capture n = record {
    preamble_is = slots_capture.preamble_is;
    records_are = all_kept IsRecord flags (take n (sent_records file size records)) (all_take IsRecord n (sent_records file size records) slots_capture.records_are);
    parts = refl;
  }

  left_capture : IsCapture (thinned flags preamble (sent_records file size records)) preamble (left_records file size rtp flags all)
  left_capture = record {
    preamble_is = slots_capture.preamble_is;
    records_are = all_kept IsRecord flags (sent_records file size records) slots_capture.records_are;
    parts = refl;
  }

  pub arrived-thinned : arrived file size input flags ≡ thinned flags preamble (sent_records file size records)
  arrived-thinned =
      ap (λ (bytes : List ℕ). thin_text flags (reading_of bytes)) (protected_text file size input preamble records flags sent)
      ∙ ap (thin_text flags) (reading_of-capture (protected p preamble records) preamble (sent_records file size records) slots_capture)

  -- ---- at the end of the input

  -- some stream fits far enough, with the block of slot t
  fits_far : (t v : ℕ) → t < v → t < all → (xs : List (List (List ℕ))) × Fits 0 gf256_product file.code.k p.m (taken_slots all) v xs × (block_at xs t ≡ block_at (stream p rtp) t)
  fits_far t v lt within =
      let n = length-stream p rtp in
      elim (cases_lt v all) [
        | inl less ↦ (take v (stream p rtp), left-fits p rtp can.sources flags all v (omega (arith, less)), block_at-take v (stream p rtp) t lt)
        | inr more ↦ (
            let whole : Fits 0 gf256_product file.code.k p.m (taken_slots all) all (stream p rtp) =
            subst (Fits 0 gf256_product file.code.k p.m (taken_slots all) all) (take_all all (stream p rtp) (omega (arith, n))) (left-fits p rtp can.sources flags all all (omega arith)) in (
              stream p rtp ++ replicate (v - all) (zero_block file.code.k p.m),
              Fits-zeros 0 gf256_product file.code.k p.m (taken_slots all) all v (stream p rtp) whole more (λ x c low. left-below p rtp flags all x c),
              get_or_append_left (stream p rtp) (replicate (v - all) (zero_block file.code.k p.m)) [] t (omega (arith, n)),
            ))
      ]

  -- so no outcome is another block
  outcome-sent : (t : ℕ) → t < all → (x : Option (List (List ℕ))) → IsOutcome 0 gf256_product file.code.k p.m file.channel.t (taken_slots all) t x → IsOf (block_at (stream p rtp) t) x
  outcome-sent t lt None h = tt
  outcome-sent t lt (Some b) h =
      let f = fits_far t (t + file.channel.t + 1) (omega arith) lt in
      sym (h.all_have f.0 f.1) ∙ f.2

  -- what the end of the input leaves of the first n slots
  abbrev first_ones : ℕ → List (Option (List (List ℕ)))
  first_ones n = outcomes file.code.k p.m file.channel.t (taken_slots all) n

  value-sent : (n t : ℕ) → n ≤ all → t < n → IsOf (block_at (stream p rtp) t) (get_or (first_ones n) t None)
  value-sent n t le lt =
      subst (IsOf (block_at (stream p rtp) t)) (sym (outcomes-at file.code.k p.m file.channel.t (taken_slots all) n t lt))
      (outcome-sent t (omega arith) _ (outcome_at-is file.code.k p.m file.channel.t (taken_slots all) t))

  few_passed : (v : ℕ) → v ≤ all → one_past (taken_slots v) ≤ all
  few_passed v le = let low = one_past-le (taken_slots v) v (left-below p rtp flags v) in omega (arith, low)

  abbrev last_ones : List (Option (List (List ℕ)))
  last_ones = first_ones (one_past (taken_slots all))

  last-are : last_values file (slots_in file (left_records file size rtp flags all)) ≡ last_ones
  last-are =
      ap (last_values file) (slots-came file size rtp can flags all (omega arith))
      ∙ last_at file p.m (came file size rtp flags all) (came-width file size rtp flags all)
      ∙ ap (λ (l : List (Taken ℕ)). outcomes file.code.k p.m file.channel.t l (one_past l)) (taken-came file size rtp flags all (omega arith))

  last_good : bad_among (last_values file (slots_in file (left_records file size rtp flags all))) ≡ None
  last_good =
      let end = one_past (taken_slots all) in
      let few = few_passed all (omega arith) in
      ap bad_among last-are
      ∙ bad_among-lacks last_ones (position-lacks is_bad_value last_ones None (λ t lt.
      let low : t < one_past (taken_slots all) = omega (arith, lt, outcomes-length file.code.k p.m file.channel.t (taken_slots all) (one_past (taken_slots all))) in
      value-good (block_at (stream p rtp) t) (get_or last_ones t None) (value-sent end t few low) (block-good p rtp can.sources t (omega (arith, low, few)))))

  -- the last source slot arrives or a flush slot does, where there is a source slot
  some_end : (length rtp ≡ 0) ⊎ ((u : ℕ) × (length rtp ≤ u + 1) × IsTakenAt (taken_slots all) u)
  some_end =
      elim (cases_lt 0 (length rtp)) [
        | inl some ↦ (
            let last = end_arrives file.channel flags (length rtp) sent.channel.ordered sent.admissible sent.flag_count (omega arith) in
            inr (last.0, last.1, is_left.all_taken last.0 last.2))
        | inr empty ↦ inl (omega arith)
      ]

  end_known : known_end (taken_slots all) ≡ length rtp
  end_known = known_end_is (length rtp) (taken_slots all) (left-ends p rtp flags all) some_end

  sources_passed : length rtp ≤ one_past (taken_slots all)
  sources_passed = omega (arith, end_known, known_end-le (taken_slots all))

  -- the values of the RTP records
  abbrev values : List (Option (List (List ℕ)))
  values = first_ones (length (rtp_part records))

  values-text : values_text values ≡ records_bytes (kept (map is_none values) rtp)
  values-text =
      records_written (block_at (stream p rtp)) values rtp (outcomes-length file.code.k p.m file.channel.t (taken_slots all) (length rtp))
      (λ i lt. value-sent (length rtp) i (omega arith) lt)
      (λ i lt. ap block_text (source_block p rtp i lt) ∙ frame-text p (get_or rtp i empty_record) (all_at IsWhole rtp i can.sources.whole lt) (can.sources.room i lt))

  -- the flush slots behind them write nothing
  flush-text : values_text (drop (length rtp) last_ones) ≡ []
  flush-text =
      let n = length rtp in
      let few = few_passed all (omega arith) in
      nothing_written (zero_block file.code.k p.m) (drop (length rtp) last_ones) (zeros-text p) (λ i lt.
      let low : length rtp + i < one_past (taken_slots all) =
      omega (arith, lt, length-drop (length rtp) last_ones, outcomes-length file.code.k p.m file.channel.t (taken_slots all) (one_past (taken_slots all))) in
      subst (λ b. IsOf b (get_or (drop n last_ones) i None)) (flush_block p rtp (length rtp + i) (omega arith) (omega (arith, low, few)))
      (subst (IsOf (block_at (stream p rtp) (n + i))) (sym (get_or-drop n last_ones i None)) (value-sent (one_past (taken_slots all)) (n + i) few low)))

  last_text : values_text (last_values file (slots_in file (left_records file size rtp flags all))) ≡ records_bytes (kept (map is_none values) rtp)
  last_text =
      let n = length rtp in
      ap values_text (last-are ∙ sym (take-append-drop n last_ones))
      ∙ values_text-append (take n last_ones) (drop n last_ones)
      ∙ ap₂ (λ a b. a ++ b) (ap values_text (outcomes-take file.code.k p.m file.channel.t (taken_slots all) (length rtp) (one_past (taken_slots all)) sources_passed) ∙ values-text) flush-text
      ∙ append-nil (records_bytes (kept (map is_none values) rtp))

  -- ---- the numbers

  end_is : known_end (taken_of file (came file size rtp flags all)) ≡ length rtp
  end_is = ap known_end (taken-came file size rtp flags all (omega arith)) ∙ end_known

  missed_is : missed_of file (came file size rtp flags all) ≡ count_by is_none values
  missed_is =
      missed_at file p.m (came file size rtp flags all) (came-width file size rtp flags all)
      ∙ ap (λ (l : List (Taken ℕ)). count_by is_none (outcomes file.code.k p.m file.channel.t l (known_end l))) (taken-came file size rtp flags all (omega arith))
      ∙ ap (λ (n : ℕ). count_by is_none (first_ones n)) end_known

  no_strangers : (marks : List Bool) (a n : ℕ) → a + n ≤ all → count_by (λ e. is_stranger (read_as file e)) (kept marks (map (sent_record file size rtp) (range_with_len a n))) ≡ 0
  no_strangers [] a n le = refl
  no_strangers (mark ∷ marks) a naught le = refl
  no_strangers (true ∷ marks) a (suc n) le = no_strangers marks (a + 1) n (omega arith)
  no_strangers (false ∷ marks) a (suc n) le =
      let e = sent_record file size rtp a in
      let rest = kept marks (map (sent_record file size rtp) (range_with_len (a + 1) n)) in
      let here : is_stranger (read_as file e) ≡ false = ap is_stranger (sent-read file size rtp can a (omega arith)) in
      sum_by-cons (λ x. cond (is_stranger (read_as file x)) 1 0) e rest
      ∙ ap₂ (λ b c. cond b 1 0 + c) here (no_strangers marks (a + 1) n (omega arith))

  no_repeats : length (came file size rtp flags all) - length (taken_of file (came file size rtp flags all)) ≡ 0
  no_repeats =
      let slots = length-left (slot_at p rtp) flags (range_with_len 0 all) in
      let taken = ap length (taken-came file size rtp flags all (omega arith)) ∙ length-left (sent_slot p rtp) flags (range_with_len 0 all) in
      omega (arith, slots, taken)

  same_numbers : (end missed strangers repeats n lost : ℕ) → end ≡ n → missed ≡ lost → strangers ≡ 0 → repeats ≡ 0
      → (let r : Repaired = record { end = end; missed = missed; strangers = strangers; repeats = repeats } in r) ≡ record { end = n; missed = lost; strangers = 0; repeats = 0 }
  same_numbers end missed strangers repeats n lost a b c d =
      ap (λ x. record { end = x; missed = missed; strangers = strangers; repeats = repeats }) a
      ∙ ap (λ x. record { end = n; missed = x; strangers = strangers; repeats = repeats }) b
      ∙ ap (λ x. record { end = n; missed = lost; strangers = x; repeats = repeats }) c
      ∙ ap (λ x. record { end = n; missed = lost; strangers = 0; repeats = x }) d

  numbers_are : numbers file (left_records file size rtp flags all) ≡ record { end = length rtp; missed = count_by is_none values; strangers = 0; repeats = 0 }
  numbers_are =
      let slots = slots-came file size rtp can flags all (omega arith) in
      same_numbers _ _ _ _ (length rtp) (count_by is_none values)
      (ap (λ l. known_end (taken_of file l)) slots ∙ end_is)
      (ap (missed_of file) slots ∙ missed_is)
      (no_strangers flags 0 all (omega arith))
      (ap (λ l. length l - length (taken_of file l)) slots ∙ no_repeats)

  came_back-are : came_back file size records flags ≡ values
  came_back-are =
      ap (λ (l : List (Taken ℕ)). outcomes file.code.k p.m file.channel.t l (length rtp))
      (ap (taken_of file) (slots-came file size rtp can flags all (omega arith)) ∙ taken-came file size rtp flags all (omega arith))

  -- Each RTP record comes back or is missed.
  pub each_comes_back : (repairing file).whole (arrived file size input flags) ≡ some_back preamble rtp (came_back file size records flags)
  each_comes_back =
      ap (repairing file).whole arrived-thinned
      ∙ due_for file (thinned flags preamble (sent_records file size records)) preamble (left_records file size rtp flags all) left_capture (none_refused file size rtp can flags all (omega arith)) last_good
      ∙ ap₂ (λ (n : Repaired) l. record { answer = Ok n; text = preamble ++ l; at_end = true }) numbers_are last_text
      ∙ ap (some_back preamble rtp) (sym came_back-are)

  -- ---- the first slots

  -- what is left of all slots is what is left of the first v, and then slots from v on
  split_at : (v : ℕ) → v ≤ all → (more : List (Taken ℕ)) × AllFrom more v × (taken_slots all ≡ taken_slots v ++ more)
  split_at v le =
      let front = map (sent_slot p rtp) (range_with_len 0 v) in
      let back = map (sent_slot p rtp) (range_with_len (0 + v) (all - v)) in
      let e : v + (all - v) ≡ all = omega arith in (
        left_by (drop (length front) flags) back,
        λ x c. (
            let from = left_in (sent_slot p rtp) (drop (length front) flags) (0 + v) (all - v) x c in
            let high : 0 + v ≤ from.0 = from.1 in
            subst (λ (s : Taken ℕ). v ≤ s.number) from.3 (omega arith)),
        ap taken_slots (sym e) ∙ ap (left_by flags) (map-range-split (sent_slot p rtp) 0 v (all - v)) ∙ left_by-append flags front back,
      )

  -- of slot t and the slots up to its deadline one is left, so slot t is passed by then
  reached : (t v : ℕ) → t < length rtp → t + file.channel.t < v → v ≤ all → t < one_past (taken_slots v)
  reached t v source over le =
      let long : length (take (t + file.channel.t + 1) flags) ≡ t + 1 + file.channel.t = omega (arith, length-take-le (t + file.channel.t + 1) flags (omega (arith, sent.flag_count, le, over))) in
      let there = end_arrives file.channel (take (t + file.channel.t + 1) flags) (t + 1) sent.channel.ordered (IsAdmissible-take file.channel (t + file.channel.t + 1) flags sent.admissible) long (omega arith) in
      let far : t + 1 ≤ there.0 + 1 = there.1 in
      let here = kept-front (t + file.channel.t + 1) flags there.0 (omega (arith, sent.flag_count, le, over)) there.2 in
      let within : there.0 < t + file.channel.t + 1 = here.0 in
      let found = is_left.all_taken there.0 here.1 in
      let at : found.0.number ≡ there.0 = found.2 in
      let parts = split_at v le in
      elim (Contains-append_cases (taken_slots v) parts.0 found.0 (subst (λ (l : List (Taken ℕ)). Contains l found.0) parts.2 found.1)) [
        | inl early ↦ (let low : found.0.number < one_past (taken_slots v) = AllBelow-one_past (taken_slots v) found.0 early in omega arith)
        | inr late ↦ (let high : v ≤ found.0.number = parts.1 found.0 late in absurd (omega arith))
      ]

  none_clash : (v : ℕ) → v ≤ all → HasNoClash 0 gf256_product file.code.k p.m (taken_slots v) (one_past (taken_slots v))
  none_clash v le =
      (HasNoClash-iff_consistent 0 gf256_product file.code.k p.m (taken_slots v) (one_past (taken_slots v))).1
      (take (one_past (taken_slots v)) (stream p rtp), left-fits p rtp can.sources flags v (one_past (taken_slots v)) (few_passed v le))

  -- the values that are put out once what is left of the first v slots was taken
  abbrev put_then : ℕ → List (Option (List (List ℕ)))
  put_then v = put_of file p.m (taken_slots v) (one_past (taken_slots v))

  first_values : (v : ℕ) → v ≤ all → values_so_far file (left_records file size rtp flags v) ≡ put_then v
  first_values v le =
      ap (values_of file) (slots-came file size rtp can flags v le)
      ∙ values_at file p.m (came file size rtp flags v) (came-width file size rtp flags v)
      ∙ ap (λ (l : List (Taken ℕ)). put_of file p.m l (one_past l)) (taken-came file size rtp flags v le)

  -- ---- where the code meets the channel

  module _ (meets : Meets 0 gf256_product file.code file.channel) where
    sent_over : IsSentOver 0 gf256_product (λ i. file.code) file.code.k file.channel p.m sources flags (taken_slots all)
    sent_over =
        let count = length-source_stream p rtp in
        IsSentOver-met 0 gf256_product file.code file.channel p.m sources flags (taken_slots all) meets sent.channel.ordered (is_protectable file size input preamble records flags sent).some
        (IsStream-sources p rtp can.sources) sent.admissible (sent.flag_count ∙ ap (λ (n : ℕ). n + file.channel.t) (sym count)) is_left
        (subst (λ (n : ℕ). HasEnds n (taken_slots all)) (sym count) (left-ends p rtp flags all))

    none_missing : values ≡ map Some sources
    none_missing =
        outcomes_are_blocks 0 gf256_product (λ i. file.code) file.code.k file.channel p.m sources flags (taken_slots all) sent_over values
        (subst (λ (n : ℕ). AreOutcomes 0 gf256_product file.code.k p.m file.channel.t (taken_slots all) n values) (sym (length-source_stream p rtp))
        (outcomes-are file.code.k p.m file.channel.t (taken_slots all) (length rtp)))

    -- The RTP part comes back.
    pub comes_back : (repairing file).whole (arrived file size input flags) ≡ all_back preamble rtp
    comes_back =
        each_comes_back
        ∙ ap (some_back preamble rtp) (came_back-are ∙ none_missing)
        ∙ ap₂ (λ (n : ℕ) l. record { answer = Ok (record { end = length rtp; missed = n; strangers = 0; repeats = 0 }); text = preamble ++ records_bytes l; at_end = true })
        (none_missed sources) (none_lost sources rtp (length-source_stream p rtp))

    -- ---- in time

    -- a slot that is passed when its deadline is over is settled by what is left up to it
    settled_then : (i v : ℕ) → i < length rtp → i + file.channel.t < v → v ≤ all → i < one_past (taken_slots v)
        → IsSettledAs 0 gf256_product file.code.k p.m file.channel.t (taken_slots v) (one_past (taken_slots v)) i (block_at sources i)
    settled_then i v source over le passed =
        let parts = split_at v le in
        let w = one_past (taken_slots v) in
        let b = block_at sources i in
        let r = block_recovered 0 gf256_product (λ i. file.code) file.code.k file.channel p.m sources flags (taken_slots all) sent_over i (omega (arith, source, length-source_stream p rtp)) in
        let whole : AllHave 0 gf256_product file.code.k p.m (taken_slots v) (i + file.channel.t + 1) i (block_at sources i) =
        (AllHave-later 0 gf256_product file.code.k p.m (taken_slots v) parts.0 (i + file.channel.t + 1) i b (AllFrom-weaker parts.0 (i + file.channel.t + 1) v (omega arith) parts.1)).0
        (subst (λ (l : List (Taken ℕ)). AllHave 0 gf256_product file.code.k p.m l (i + file.channel.t + 1) i b) parts.2 r.all_have) in
        record {
          is_passed = passed;
          no_clash = none_clash v le;
          all_have = elim (cases_lt (one_past (taken_slots v)) (i + file.channel.t + 1)) [
            | inl less ↦ (
                let e : one_past (taken_slots v) ≡ min (one_past (taken_slots v)) (i + file.channel.t + 1) = omega arith in
                subst (λ (n : ℕ). AllHave 0 gf256_product file.code.k p.m (taken_slots v) n i b) e
                (AllHave-shorter 0 gf256_product file.code.k p.m (taken_slots v) w (i + file.channel.t + 1) i b (AllBelow-one_past (taken_slots v)) passed (omega arith) whole))
            | inr more ↦ (
                let e : i + file.channel.t + 1 ≡ min (one_past (taken_slots v)) (i + file.channel.t + 1) = omega arith in
                subst (λ (n : ℕ). AllHave 0 gf256_product file.code.k p.m (taken_slots v) n i b) e whole)
          ];
        }

    many_put : (t v : ℕ) → t < length rtp → t + file.channel.t < v → v ≤ all → t < length (put_then v)
    many_put t v source over le =
        let passed = reached t v source over le in
        let is_put = put_values-put file.code.k p.m file.channel.t (taken_slots v) (one_past (taken_slots v)) (none_clash v le) in
        let i = length (put_then v) in
        elim (cases_lt t (length (put_then v))) [
          | inl more ↦ more
          | inr fewer ↦
              absurd (is_put.greatest (omega (arith, fewer, passed)) (Some (block_at sources i)) (settled_then (length (put_then v)) v (omega (arith, fewer, source)) (omega (arith, fewer, over)) le (omega (arith, fewer, passed))))
        ]

    put-begins : (t v : ℕ) → t < length rtp → t + file.channel.t < v → v ≤ all → put_then v ≡ map Some (take (t + 1) sources) ++ drop (length (map Some (take (t + 1) sources))) (put_then v)
    put-begins t v source over le =
        let passed = reached t v source over le in
        let many = many_put t v source over le in
        let count = length-source_stream p rtp in
        let front = length-take-le (t + 1) sources (omega (arith, count, source)) in
        let size : length (map Some (take (t + 1) sources)) ≡ t + 1 = omega (arith, length-map (take (t + 1) sources) (λ x. Some x), front) in
        begins None (map Some (take (t + 1) sources)) (put_then v) (omega (arith, size, many)) (λ i lt.
        get_or-map Some (take (t + 1) sources) i [] None (omega (arith, lt, size, front))
        ∙ ap Some (get_or-take (t + 1) sources i [] (omega (arith, lt, size)))
        ∙ sym (IsSettled-unique 0 gf256_product file.code.k p.m file.channel.t (taken_slots v) (one_past (taken_slots v)) i (get_or (put_then v) i None) (Some (block_at sources i))
        (put_values-one file.code.k p.m file.channel.t (taken_slots v) (one_past (taken_slots v)) i (none_clash v le) (omega (arith, lt, size, many)))
        (settled_then i v (omega (arith, lt, size, source)) (omega (arith, lt, size, over)) le (omega (arith, lt, size, passed)))))

    put-text : (t v : ℕ) → t < length rtp → t + file.channel.t < v → v ≤ all → IsPrefix (records_bytes (take (t + 1) rtp)) (values_text (put_then v))
    put-text t v source over le =
        let rest = drop (length (map Some (take (t + 1) sources))) (put_then v) in
        record {
          rest = values_text rest;
          parts =
              ap values_text (put-begins t v source over le)
              ∙ values_text-append (map Some (take (t + 1) sources)) rest
              ∙ ap (λ l. l ++ values_text rest) (some_written (take (t + 1) sources) ∙ sources_text p (t + 1) rtp can.sources.whole can.sources.room);
        }

    in_time_at : (t n v : ℕ) → t < length rtp → t + file.channel.t < v → v ≤ all → take n (sent_records file size records) ≡ map (sent_record file size rtp) (range_with_len 0 v)
        → IsPrefix (preamble ++ records_bytes (take (t + 1) rtp)) ((repairing file).so_far (thinned flags preamble (take n (sent_records file size records))))
    in_time_at t n v source over le same =
        let es = kept flags (take n (sent_records file size records)) in
        let none = ap (λ (l : List Record). first_refused file (kept flags l)) same ∙ none_refused file size rtp can flags v le in
        let text = so_far_for file (thinned flags preamble (take n (sent_records file size records))) preamble es (first_capture n) none in
        let put = ap (λ (l : List Record). values_so_far file (kept flags l)) same ∙ first_values v le in
        subst (IsPrefix (preamble ++ records_bytes (take (t + 1) rtp))) (sym (text ∙ ap (λ l. preamble ++ values_text l) put))
        (IsPrefix-front preamble (records_bytes (take (t + 1) rtp)) (values_text (put_then v)) (put-text t v source over le))

    -- Each record comes in time.
    pub comes_in_time : (t n : ℕ) → t < length rtp → t + file.channel.t < n
        → IsPrefix (preamble ++ records_bytes (take (t + 1) rtp)) ((repairing file).so_far (thinned flags preamble (take n (sent_records file size records))))
    comes_in_time t n source over =
        let count = length-map-range_with_len (sent_record file size rtp) 0 all in
        elim (cases_lt all n) [
          | inl more ↦ in_time_at t n all source (omega (arith, source)) (omega arith) (take_all n (sent_records file size records) (omega (arith, more, count)))
          | inr less ↦ in_time_at t n n source over less (take-map-range_with_len (sent_record file size rtp) 0 all n less)
        ]

-- what the end of the input leaves of the slots of the RTP records is told by what is recovered
pub values-are_outcomes : (file : CodeFile) (size : ℕ) (records : List Record) (flags : List Bool) → (length (came_back file size records flags) ≡ length (rtp_part records))
    × ((t : ℕ) → t < length (rtp_part records) → IsOutcome 0 gf256_product file.code.k (protection_of file size).m file.channel.t (arrived_slots file size records flags) t (get_or (came_back file size records flags) t None))
values-are_outcomes file size records flags =
    let h = outcomes-are file.code.k (protection_of file size).m file.channel.t (arrived_slots file size records flags) (length (rtp_part records)) in
    (h.count, h.each)

-- what is left of the first slots comes first
pub first-slots : (preamble : List ℕ) (slots : List Record) (flags : List Bool) (n : ℕ) → IsPrefix (thinned flags preamble (take n slots)) (thinned flags preamble slots)
first-slots preamble slots flags n =
    let front = take n slots in
    let rest = kept (drop (length front) flags) (drop n slots) in
    record {
      rest = records_bytes rest;
      parts =
          ap (λ (l : List Record). preamble ++ records_bytes (kept flags l)) (sym (take-append-drop n slots))
          ∙ ap (λ (l : List Record). preamble ++ records_bytes l) (kept-append flags front (drop n slots))
          ∙ ap (λ l. preamble ++ l) (records_bytes-append (kept flags front) rest)
          ∙ sym (append_assoc preamble (records_bytes (kept flags front)) (records_bytes rest));
    }

-- ---- a run that is prompt

IsPrefix-length : (put text : List ℕ) → IsPrefix put text → length put ≤ length text
IsPrefix-length put text h = omega (arith, ap length h.parts, length-append put h.rest)

pub prompt-timely : (file : CodeFile) (size : ℕ) (input preamble : List ℕ) (records : List Record) (flags : List Bool) → IsSentThrough file size input preamble records flags
    → (old new : Told) (journal moves : List Move) → old.left ≡ Some (arrived file size input flags) → old.journal ≡ Some journal → new.journal ≡ Some (journal ++ moves)
    → IsPrompt (repairing file) old new → (t : ℕ) → t < length (rtp_part records) → IsTimely file size preamble records flags moves t
prompt-timely file size input preamble records flags sent old new journal moves left before after prompt t lt =
    let first = thinned flags preamble (take (t + file.channel.t + 1) (sent_records file size records)) in
    let due = preamble ++ records_bytes (take (t + 1) (rtp_part records)) in
    let front = first-slots preamble (sent_records file size records) flags (t + file.channel.t + 1) in
    let in_time = comes_in_time file size input preamble records flags sent.sent sent.meets t (t + file.channel.t + 1) lt (omega arith) in
    IsWrittenBefore-less moves (length first) (length first) (length ((repairing file).so_far first)) (length due) (omega arith) (IsPrefix-length due ((repairing file).so_far first) in_time)
    (prompt journal moves first front.rest before after (left ∙ ap Some (arrived-thinned file size input preamble records flags sent.sent ∙ front.parts)))
