-- Of what a loss leaves of a protected capture no record is refused.
use Rattle.std.proofs.Common.{◌≡◌, inl, inr, ℕ, zero as naught, suc, ◌+◌, ◌-◌, ◌<◌, ◌≤◌, nat_eq, nat_le, nat_lt, Bool, true, false, cond, List, [], ◌∷◌, ◌++◌, length, get_or, take, drop, map, Contains, Some, None, refl, sym, ap, ap₂, ◌∙◌, subst, arith, append-nil}
use Rattle.std.specs.List.{range_with_len}
use Rattle.std.proofs.lemmas.Bool.{cases_Bool, cond-true, cond-false, eq-eqb, lt-leb, le-ltb}
use Rattle.std.proofs.lemmas.List.FromFn.{length-map-range_with_len, map-range_with_len_more}
use Rattle.sc_rtpdump.specs.Record.{Record}
use Rattle.sc_rtpdump.specs.Thin.{kept}
use Rattle.sc_code.specs.declared.code.CodeFile.{CodeFile}
use Rattle.sc_code.specs.Stream.{block_at}
use Rattle.sc_slots.specs.Protected.{protection_of, source_of, stream, slot_at}
use Rattle.sc_slots.specs.Slot.{Slot, IsSlot, slot, slot_record}
use Rattle.sc_slots.specs.Taken.{Taken, one_past, claimed, least_end}
use Rattle.sc_slots.specs.Sent.{left_by}
use Rattle.sc_slots.proofs.EndLaws.{one_past-le}
use Rattle.sc_slots.proofs.FitLaws.{block_at-take}
use Rattle.sc_repair.specs.declared.repair.RepairEnd.TheVariants.{TooManyRecords, TooManySlots, Clash}
use Rattle.sc_repair.specs.declared.repairer.Unfit.TheVariants.{OtherWidth, OtherEnd}
use Rattle.sc_repair.specs.Readings.{is_bad_block}
use Rattle.sc_repair.specs.Values.{is_consistent}
use Rattle.sc_repair.specs.Repairing.{width_in, first_of, bad_among, end_fits, end_by, read_as, slots_in, taken_of, put_of, still, misfit, stop_by, refusal_by, slot_refusal, reading_refusal, refusal, first_refused}
use Rattle.sc_repair.proofs.Growth.{first_refused-push}
use Rattle.sc_repair.proofs.ValueLaws.{is_consistent-there}
use Rattle.sc_repair.proofs.SentSlots.{record_reading-slot, kept-is, left_by-none, left_by-le, left_by-append, left_by-kept, left_by-lost, left_in, slots_kept, end_fits-sent}
use Rattle.sc_repair.proofs.SentStream.{AreSources, block-good, sent_slot, taken-is, left_slots, taken-left, left-ends, left-below, left-fits, next-fits, put-good}

-- slots of one width
width_of_all : (m : ℕ) (slots : List Slot) (s : Slot) → ((x : Slot) → Contains slots x → x.m ≡ m) → s.m ≡ m → width_in (slots ++ s ∷ []) ≡ m
width_of_all m [] s each last = last
width_of_all m (x ∷ slots) s each last = each x (0, omega arith, refl)

-- RTP records can be sent by a code file and a size: they are whole, their slots well shaped, and few
pub record AreSendable (file : CodeFile) (size : ℕ) (rtp : List Record) : Type 0 where
  pub sources : AreSources (protection_of file size) rtp
  pub slots : (t : ℕ) → t < length rtp + file.channel.t → IsSlot file.code.k file.code.r file.channel.t (slot_at (protection_of file size) rtp t)
  pub k : file.code.k < 256
  pub r : file.code.r < 256
  pub few : length rtp + file.channel.t ≤ 4000000

module _ (file : CodeFile) (size : ℕ) (rtp : List Record) where
  -- the record of slot i, those of the first n that are left, and their slots
  abbrev pub sent_record : ℕ → Record
  sent_record i = slot_record file.code.k file.code.r (source_of rtp i).offset (slot_at (protection_of file size) rtp i)

  abbrev pub left_records : List Bool → ℕ → List Record
  left_records flags n = kept flags (map sent_record (range_with_len 0 n))

  abbrev pub came : List Bool → ℕ → List Slot
  came flags n = left_by flags (map (slot_at (protection_of file size) rtp) (range_with_len 0 n))

  abbrev pub taken_by : List Bool → ℕ → List (Taken ℕ)
  taken_by flags n = left_slots (protection_of file size) rtp flags n

  pub sent-read : AreSendable file size rtp → (i : ℕ) → i < length rtp + file.channel.t → read_as file (sent_record i) ≡ slot (slot_at (protection_of file size) rtp i)
  sent-read h i lt =
      record_reading-slot file.code.k file.code.r file.channel.t (source_of rtp i).offset (slot_at (protection_of file size) rtp i) h.k h.r (h.slots i lt)

  pub slots-came : AreSendable file size rtp → (flags : List Bool) (n : ℕ) → n ≤ length rtp + file.channel.t → slots_in file (left_records flags n) ≡ came flags n
  slots-came h flags n le = slots_kept file sent_record (slot_at (protection_of file size) rtp) flags 0 n (λ i lt. sent-read h i (omega arith))

  pub taken-came : (flags : List Bool) (n : ℕ) → n ≤ length rtp + file.channel.t → taken_of file (came flags n) ≡ taken_by flags n
  taken-came flags n le = taken-left (protection_of file size) rtp flags n le

  pub came-width : (flags : List Bool) (n : ℕ) (x : Slot) → Contains (came flags n) x → x.m ≡ (protection_of file size).m
  came-width flags n x c =
      let from = left_in (slot_at (protection_of file size) rtp) flags 0 n x c in
      subst (λ (s : Slot). s.m ≡ (protection_of file size).m) from.3 refl

  -- ---- the next slot

  -- the blocks of the stream up to slot w are good
  pub front-good : AreSendable file size rtp → (w : ℕ) → w ≤ length rtp + file.channel.t → (i : ℕ) → i < w → is_bad_block (block_at (take w (stream (protection_of file size) rtp)) i) ≡ false
  front-good h w le i lt =
      ap is_bad_block (block_at-take w (stream (protection_of file size) rtp) i lt) ∙ block-good (protection_of file size) rtp h.sources i (omega arith)

  no_stop : AreSendable file size rtp → (flags : List Bool) (n : ℕ) → n < length rtp + file.channel.t → stop_by file (protection_of file size).m (taken_by flags n) (sent_slot (protection_of file size) rtp n) ≡ None
  no_stop h flags n lt =
      let p = protection_of file size in
      let before = taken_by flags n in
      let after = taken_by flags n ++ sent_slot (protection_of file size) rtp n ∷ [] in
      let some = next-fits (protection_of file size) rtp h.sources flags n lt in
      let first = put-good p rtp file p.m n before (take n (stream p rtp)) (left-fits (protection_of file size) rtp h.sources flags n n (omega arith)) (front-good h n (omega arith)) in
      let last = put-good p rtp file p.m (n + 1) after (take (n + 1) (stream p rtp)) some (front-good h (n + 1) (omega arith)) in
      ap (λ o. first_of o (cond (is_consistent file.code.k p.m after (n + 1)) (bad_among (put_of file p.m after (n + 1))) (Some (record { fault = Clash n; values = put_of file p.m before n })))) first
      ∙ cond-true (is_consistent file.code.k p.m after (n + 1)) (bad_among (put_of file p.m after (n + 1))) (Some (record { fault = Clash n; values = put_of file p.m before n }))
      (is_consistent-there file.code.k p.m after (n + 1) (take (n + 1) (stream p rtp), some))
      ∙ last

  no_misfit : AreSendable file size rtp → (flags : List Bool) (n : ℕ) → n < length rtp + file.channel.t → misfit file (came flags n) (slot_at (protection_of file size) rtp n) ≡ None
  no_misfit h flags n lt =
      let p = protection_of file size in
      let slots = came flags n in
      let s = slot_at p rtp n in
      let m = width_in (slots ++ s ∷ []) in
      let taken = taken_of file slots in
      let width : p.m ≡ m = sym (width_of_all (protection_of file size).m (came flags n) (slot_at (protection_of file size) rtp n) (came-width flags n) refl) in
      let ends : end_fits (claimed (taken_of file (came flags n))) (least_end (taken_of file (came flags n))) n (n + 1 - length rtp) ≡ true =
      ap (λ l. end_fits (claimed l) (least_end l) n (n + 1 - length rtp)) (taken-came flags n (omega arith))
      ∙ end_fits-sent (length rtp) n (taken_by flags n) (left-ends (protection_of file size) rtp flags n) (left-below (protection_of file size) rtp flags n) in
      cond-true (nat_eq p.m m) (cond (end_fits (claimed taken) (least_end taken) n (n + 1 - length rtp)) None (Some (OtherEnd n (end_by (claimed taken) (least_end taken)) (n + 1 - length rtp)))) (Some (OtherWidth n m p.m)) (eq-eqb p.m m width)
      ∙ cond-true (end_fits (claimed taken) (least_end taken) n (n + 1 - length rtp)) None (Some (OtherEnd n (end_by (claimed taken) (least_end taken)) (n + 1 - length rtp))) ends

  slot_taken : AreSendable file size rtp → (flags : List Bool) (n : ℕ) → n < length rtp + file.channel.t → slot_refusal file (came flags n) (slot_at (protection_of file size) rtp n) ≡ None
  slot_taken h flags n lt =
      let p = protection_of file size in
      let slots = came flags n in
      let s = slot_at p rtp n in
      let few = h.few in
      let past : one_past (taken_of file (came flags n)) ≤ n =
      subst (λ (l : List (Taken ℕ)). one_past l ≤ n) (sym (taken-came flags n (omega arith))) (one_past-le (taken_by flags n) n (left-below (protection_of file size) rtp flags n)) in
      cond-false (nat_le 4000000 n) (Some (still file slots (TooManySlots n))) (cond (nat_lt n (one_past (taken_of file slots))) None (refusal_by file slots s (misfit file slots s))) (lt-leb 4000000 n (omega arith))
      ∙ cond-false (nat_lt n (one_past (taken_of file slots))) None (refusal_by file slots s (misfit file slots s)) (le-ltb n (one_past (taken_of file slots)) past)
      ∙ ap (refusal_by file slots s) (no_misfit h flags n lt)
      ∙ ap₂ (stop_by file p.m) (taken-came flags n (omega arith)) (taken-is p rtp n lt)
      ∙ no_stop h flags n lt

  record_taken : AreSendable file size rtp → (flags : List Bool) (n : ℕ) → n < length rtp + file.channel.t → refusal file (length (left_records flags n)) (slots_in file (left_records flags n)) (sent_record n) ≡ None
  unfolding refusal
  record_taken h flags n lt =
      let index = length (left_records flags n) in
      let few = h.few in
      let small : length (left_records flags n) ≤ n =
      omega (arith, ap length (kept-is flags (map sent_record (range_with_len 0 n))), left_by-le flags (map sent_record (range_with_len 0 n)), length-map-range_with_len sent_record 0 n) in
      cond-false (nat_le 8000000 index) (Some (still file (slots_in file (left_records flags n)) TooManyRecords)) (reading_refusal file index (slots_in file (left_records flags n)) (read_as file (sent_record n)))
      (lt-leb 8000000 (length (left_records flags n)) (omega arith))
      ∙ ap₂ (reading_refusal file index) (slots-came h flags n (omega arith)) (sent-read h n lt)
      ∙ slot_taken h flags n lt

  -- ---- all of them

  -- one record more, or none
  left-more : (flags : List Bool) (n : ℕ) → left_records flags (n + 1) ≡ left_records flags n ++ left_by (drop n flags) (sent_record n ∷ [])
  left-more flags n =
      let front = map sent_record (range_with_len 0 n) in
      let count = length-map-range_with_len sent_record 0 n in
      kept-is flags (map sent_record (range_with_len 0 (n + 1)))
      ∙ ap (left_by flags) (map-range_with_len_more sent_record 0 n n (omega arith))
      ∙ left_by-append flags front (sent_record n ∷ [])
      ∙ ap₂ (λ l (i : ℕ). l ++ left_by (drop i flags) (sent_record n ∷ [])) (sym (kept-is flags front)) count

  pub none_refused : AreSendable file size rtp → (flags : List Bool) (n : ℕ) → n ≤ length rtp + file.channel.t → first_refused file (left_records flags n) ≡ None
  none_refused h flags naught le = ap (first_refused file) (kept-is flags [] ∙ left_by-none flags)
  none_refused h flags (suc n) le =
      let next : suc n ≡ n + 1 = omega arith in
      let before = none_refused h flags n (omega arith) in
      ap (λ (i : ℕ). first_refused file (left_records flags i)) next
      ∙ ap (first_refused file) (left-more flags n)
      ∙ elim (cases_Bool (get_or flags n true)) [
        | inl lost ↦ ap (λ l. first_refused file (left_records flags n ++ l)) (left_by-lost flags n (sent_record n) lost) ∙ ap (first_refused file) (append-nil (left_records flags n)) ∙ before
        | inr there ↦
            ap (λ l. first_refused file (left_records flags n ++ l)) (left_by-kept flags n (sent_record n) there)
            ∙ first_refused-push file (left_records flags n) (sent_record n)
            ∙ ap₂ first_of before (record_taken h flags n (omega arith))
      ]
