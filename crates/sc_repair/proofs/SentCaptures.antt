-- What it means for a capture and its slots that protecting it is answered well: its RTP records can be sent.
use Rattle.std.proofs.Common.{◌≡◌, inl, inr, ℕ, zero as naught, suc, ◌+◌, ◌*◌, ◌-◌, ◌<◌, ◌≤◌, nat_eq, nat_le, nat_lt, Bool, true, false, cond, List, [], ◌∷◌, ◌++◌, length, get_or, take, replicate, Option, Some, None, refl, sym, ap, ◌∙◌, subst, arith, append-nil}
use Rattle.std.specs.Prelude.{IsOk}
use Rattle.std.proofs.lemmas.Bool.{cases_Bool, cases_lt, eqb-true, leb-false, ltb-false}
use Rattle.std.proofs.lemmas.Grind.{div_ceil_times}
use Rattle.std.proofs.lemmas.List.{length-append, length_push, length-replicate, take_all, take_more}
use Rattle.sc_rtpdump.specs.declared.kind.Kind.TheVariants.{Rtp}
use Rattle.sc_rtpdump.specs.Record.{Record, empty_record, short_head, short_length, cut_body, Front, ends, breaks, starts, front_of}
use Rattle.sc_rtpdump.specs.Capture.{IsCapture, AreBytes, Parts, Reading, no_preamble, reads, reading_of, IsReading, records_bytes}
use Rattle.sc_rtpdump.proofs.CaptureLaws.{front_of-end}
use Rattle.sc_rtpdump.proofs.ReadingLaws.{reading_of-capture, reading_of-sound}
use Rattle.sc_code.specs.declared.code.CodeFile.{CodeFile}
use Rattle.sc_slots.specs.declared.protect.ProtectFault.{ProtectFault}
use Rattle.sc_slots.specs.Frame.{width_of, frame_bytes}
use Rattle.sc_slots.specs.Protected.{Protection, protection_of, packet_len, has_kind, rtp_part, refusal_at, at_index, or_else, first_below, first_refused, due_behind, due_by, due_of, protected, protecting_within, protecting}
use Rattle.sc_slots.specs.ProtectedLaws.{IsProtectable}
use Rattle.sc_slots.proofs.CaptureSteps.{slot_is}
use Rattle.sc_slots.proofs.ProtectedLaws.{refusal_by, refusal-is, rtp_part-yes, rtp_part-no, zero_blocks, block-front}
use Rattle.sc_repair.specs.Restoration.{IsSentBy}
use Rattle.sc_repair.proofs.SentBlocks.{rtp-whole, capture_bytes}
use Rattle.sc_repair.proofs.SentRecords.{AreSendable}

-- ---- an answer that is Ok

-- nothing is refused, the packets aren't too wide, and the text is that of the protected capture
record IsAccepted (p : Protection) (preamble : List ℕ) (records : List Record) (text : List ℕ) : Type 0 where
  limit : packet_len p ≤ 65527
  none : first_refused p records ≡ None
  text_is : text ≡ protected p preamble records

accepted_behind : (p : Protection) (preamble : List ℕ) (records : List Record) (front : Front) → front ≡ ends → (due_behind p preamble records front).text ≡ protected p preamble records
accepted_behind p preamble records front is = ap (λ (f : Front). (due_behind p preamble records f).text) is

accepted_by : (p : Protection) (preamble : List ℕ) (records : List Record) (o : Option (ℕ × ProtectFault)) → first_refused p records ≡ o
    → packet_len p ≤ 65527 → IsOk (due_by p preamble (record { records = records; tail = [] }) o).answer
    → IsAccepted p preamble records (due_by p preamble (record { records = records; tail = [] }) o).text
accepted_by p preamble records (Some first) is limit ok = absurd (cc)
accepted_by p preamble records None is limit ok = record { limit = limit; none = is; text_is = accepted_behind p preamble records (front_of []) (front_of-end [] refl) }

accepted_within : (p : Protection) (input preamble : List ℕ) (records : List Record) (wide : Bool) → nat_lt 65527 (packet_len p) ≡ wide → IsCapture input preamble records
    → IsOk ((protecting_within wide p).whole input).answer → IsAccepted p preamble records ((protecting_within wide p).whole input).text
accepted_within p input preamble records true is c ok = absurd (cc)
accepted_within p input preamble records false is c ok =
    let reading = reading_of-capture input preamble records c in
    let none = accepted_by p preamble records (first_refused p records) refl (ltb-false 65527 (packet_len p) is) (subst (λ (r : Reading). IsOk (due_of p r).answer) reading ok) in
    subst (λ (r : Reading). IsAccepted p preamble records (due_of p r).text) (sym reading) none

accepted : (file : CodeFile) (size : ℕ) (input preamble : List ℕ) (records : List Record) → IsCapture input preamble records → IsOk ((protecting file size).whole input).answer
    → IsAccepted (protection_of file size) preamble records ((protecting file size).whole input).text
accepted file size input preamble records c ok =
    accepted_within (protection_of file size) input preamble records (nat_lt 65527 (packet_len (protection_of file size))) refl c ok

-- an input that isn't refused is a capture

never_ends : (z a b c : Bool) (e : Record) (rest : List ℕ) → cond z ends (cond a (breaks short_head) (cond b (breaks short_length) (cond c (breaks cut_body) (starts e rest)))) ≡ ends → z ≡ true
never_ends true a b c e rest h = refl
never_ends false true b c e rest h = absurd (cc)
never_ends false false true c e rest h = absurd (cc)
never_ends false false false true e rest h = absurd (cc)
never_ends false false false false e rest h = absurd (cc)

nothing_left : (bytes : List ℕ) → front_of bytes ≡ ends → bytes ≡ []
unfolding front_of
nothing_left bytes h =
    let none : length bytes ≡ 0 = eqb-true (length bytes) 0 (never_ends (nat_eq (length bytes) 0) _ _ _ _ _ h) in
    empty bytes none
  where
    empty : (bytes : List ℕ) → length bytes ≡ 0 → bytes ≡ []
    empty [] e = refl
    empty (x ∷ bytes) e = absurd (omega arith)

capture_behind : (p : Protection) (input preamble : List ℕ) (parts : Parts) (front : Front) → front_of parts.tail ≡ front → IsReading input preamble parts
    → IsOk (due_behind p preamble parts.records front).answer → IsCapture input preamble parts.records
capture_behind p input preamble parts (breaks break) is h ok = absurd (cc)
capture_behind p input preamble parts (starts e rest) is h ok = absurd (h.ended e rest is)
capture_behind p input preamble parts ends is h ok =
    record {
      preamble_is = h.preamble_is;
      records_are = h.records_are;
      parts = h.spelled ∙ ap (λ (l : List ℕ). preamble ++ (records_bytes parts.records ++ l)) (nothing_left parts.tail is) ∙ ap (λ l. preamble ++ l) (append-nil (records_bytes parts.records));
    }

capture_parts : (p : Protection) (input preamble : List ℕ) (parts : Parts) (o : Option (ℕ × ProtectFault)) → IsReading input preamble parts → IsOk (due_by p preamble parts o).answer
    → IsCapture input preamble parts.records
capture_parts p input preamble parts (Some first) h ok = absurd (cc)
capture_parts p input preamble parts None h ok = capture_behind p input preamble parts (front_of parts.tail) refl h ok

capture_read : (p : Protection) (input : List ℕ) (r : Reading) → reading_of input ≡ r → AreBytes input → IsOk (due_of p r).answer
    → (preamble : List ℕ) × (records : List Record) × IsCapture input preamble records
capture_read p input no_preamble is are ok = absurd (cc)
capture_read p input (reads preamble parts) is are ok =
    (preamble, parts.records, capture_parts p input preamble parts (first_refused p parts.records) (reading_of-sound input preamble parts are is) ok)

capture_within : (p : Protection) (input : List ℕ) (wide : Bool) → AreBytes input → IsOk ((protecting_within wide p).whole input).answer
    → (preamble : List ℕ) × (records : List Record) × IsCapture input preamble records
capture_within p input true are ok = absurd (cc)
capture_within p input false are ok = capture_read p input (reading_of input) refl are ok

pub protected-capture_there : (file : CodeFile) (size : ℕ) (input : List ℕ) → AreBytes input → IsOk ((protecting file size).whole input).answer
    → (preamble : List ℕ) × (records : List Record) × IsCapture input preamble records
protected-capture_there file size input are ok = capture_within (protection_of file size) input (nat_lt 65527 (packet_len (protection_of file size))) are ok

-- ---- the width

width_fits : (size k : ℕ) → 1 ≤ k → size + 6 ≤ k * width_of size k
width_fits size k some =
    let both = div_ceil_times (size + 6) k (omega arith) in
    let turned : width_of size k * k ≡ k * width_of size k = omega arith in
    omega (arith, both.0, turned)

width_some : (size k w : ℕ) → size + 6 ≤ k * w → 1 ≤ w
width_some size k naught fits = let none : k * 0 ≡ 0 = omega arith in absurd (omega arith)
width_some size k (suc w) fits = omega arith

-- ---- few slots

none_both : (n : ℕ) (o : Option (ℕ × ProtectFault)) (r : Option ProtectFault) → or_else o (at_index n r) ≡ None → (o ≡ None) × (r ≡ None)
none_both n (Some x) r h = absurd (cc)
none_both n None (Some f) h = absurd (cc)
none_both n None None h = (refl, refl)

accepted_each : (p : Protection) (es : List Record) (n i : ℕ) → first_below p es n ≡ None → i < n → refusal_at p es i ≡ None
accepted_each p es naught i h lt = absurd (omega arith)
accepted_each p es (suc n) i h lt =
    let both = none_both n (first_below p es n) (refusal_at p es n) h in
    elim (cases_lt i n) [
      | inl less ↦ accepted_each p es n i both.0 less
      | inr other ↦ (let same : n ≡ i = omega arith in subst (λ k. refusal_at p es k ≡ None) same both.1)
    ]

room_left : (a b c d : Bool) (i l : ℕ) → refusal_by a b c d i l ≡ None → b ≡ true → d ≡ false
room_left true b c d i l h g = absurd (cc)
room_left false false c d i l h g = absurd (cc)
room_left false true true d i l h g = absurd (cc)
room_left false true false true i l h g = absurd (cc)
room_left false true false false i l h g = refl

-- among the first n records there are at most so many RTP records
few_below : (p : Protection) (es : List Record) → first_refused p es ≡ None → (n : ℕ) → n ≤ length es → length (rtp_part (take n es)) ≤ 4000000 - p.deadline
few_below p es none naught le = omega arith
few_below p es none (suc n) le =
    let before = few_below p es none n (omega arith) in
    let e = get_or es n empty_record in
    let next : take (suc n) es ≡ take n es ++ get_or es n empty_record ∷ [] = ap (λ (i : ℕ). take i es) (let e : suc n ≡ n + 1 = omega arith in e) ∙ take_more es n empty_record (omega arith) in
    let count = length (rtp_part (take n es)) in
    let ok = accepted_each p es (length es) n none (omega arith) in
    elim (cases_Bool (has_kind Rtp (get_or es n empty_record))) [
      | inl rtp ↦ (
          let d = room_left (nat_le 8000000 n) (has_kind Rtp e) (nat_lt p.size (length e.body)) (nat_le (4000000 - p.deadline) count) n (length e.body) (sym (refusal-is p n count e) ∙ ok) rtp in
          let less : length (rtp_part (take n es)) < 4000000 - p.deadline = leb-false (4000000 - p.deadline) (length (rtp_part (take n es))) d in
          omega (arith, ap (λ (l : List Record). length (rtp_part l)) next, ap length (rtp_part-yes (take n es) (get_or es n empty_record) rtp), length_push (rtp_part (take n es)) (get_or es n empty_record)))
      | inr other ↦ omega (arith, ap (λ (l : List Record). length (rtp_part l)) next, ap length (rtp_part-no (take n es) (get_or es n empty_record) other))
    ]

few_slots : (p : Protection) (es : List Record) → first_refused p es ≡ None → p.deadline ≤ 40 → length (rtp_part es) + p.deadline ≤ 4000000
few_slots p es none small =
    let le = few_below p es none (length es) (omega arith) in
    omega (arith, ap (λ (l : List Record). length (rtp_part l)) (take_all (length es) es (omega arith)))

-- ---- the RTP records can be sent

frame_room : (offset : ℕ) (packet : List ℕ) (len : ℕ) → length (frame_bytes offset packet len) ≡ len → 6 + length packet ≤ len
unfolding frame_bytes
frame_room offset packet len h =
    let n = len - (6 + length packet) in
    omega (arith, h, length-append packet (replicate n 0), length-replicate {A = ℕ} n 0)

module _ (file : CodeFile) (size : ℕ) (input preamble : List ℕ) (records : List Record) (flags : List Bool) where
  pub is_protectable : IsSentBy file size input preamble records flags → IsProtectable (protection_of file size) input records
  is_protectable sent =
      let a = accepted file size input preamble records sent.capture sent.is_protected in
      let range = sent.code.in_range in
      let fits = width_fits size file.code.k range.some_symbol in
      record {
        code = sent.code;
        deadline = sent.channel.deadline_limit;
        some = width_some size file.code.k (width_of size file.code.k) fits;
        fits = fits;
        limit = a.limit;
        bytes = sent.bytes;
        accepted = a.none;
      }

  pub protected_text : IsSentBy file size input preamble records flags → ((protecting file size).whole input).text ≡ protected (protection_of file size) preamble records
  protected_text sent = (accepted file size input preamble records sent.capture sent.is_protected).text_is

  pub are_sendable : IsSentBy file size input preamble records flags → AreSendable file size (rtp_part records)
  are_sendable sent =
      let p = protection_of file size in
      let h = is_protectable sent in
      let range = sent.code.in_range in
      let slots = slot_is p input preamble records sent.capture h in
      record {
        sources = record {
          whole = rtp-whole records sent.capture.records_are (capture_bytes preamble records (subst AreBytes sent.capture.parts sent.bytes));
          room = λ i lt.
              let e = get_or (rtp_part records) i empty_record in
              frame_room e.offset e.body (p.code.k * p.m) (sym (ap length (block-front p (rtp_part records) (zero_blocks p) i lt)) ∙ (slots i (omega (arith, lt))).packet.block);
        };
        slots = slots;
        k = omega (arith, range.size_limit);
        r = omega (arith, range.size_limit);
        few = few_slots p records h.accepted h.deadline;
      }
