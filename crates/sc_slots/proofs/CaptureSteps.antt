-- The protected capture is a capture of well shaped slots.
use Rattle.std.proofs.Common.{◌≡◌, ◌≢◌, inl, inr, ℕ, zero, suc, ◌+◌, ◌-◌, ◌*◌, ◌^◌, ◌<◌, ◌≤◌, Bool, true, false, cond, min, nat_le, nat_lt, Option, Some, None, List, [], ◌∷◌, ◌++◌, length, take, map, replicate, get_or, refl, sym, ap, ◌∙◌, subst, arith, length-append}
use Rattle.std.specs.List.{AllByRecursion, flat_map, concat, range_with_len}
use Rattle.std.proofs.lemmas.Bool.{cases_lt, ltb-false}
use Rattle.std.proofs.lemmas.List.{length-map, length-replicate, get_or-append_right, get_or-replicate, get_or_past}
use Rattle.std.proofs.lemmas.List.FromFn.{length-map-range_with_len}
use Rattle.std.proofs.lemmas.List.Sums.{length-filter, count_by-le-length}
use Rattle.sc_rtp.proofs.HeadLaws.{head_of-fits}
use Rattle.sc_rtpdump.specs.declared.kind.Kind.TheVariants.{Rtp}
use Rattle.sc_rtpdump.specs.Capture.{IsCapture, AreBytes, records_bytes}
use Rattle.sc_rtpdump.specs.Kind.{kind}
use Rattle.sc_rtpdump.specs.Record.{Record, IsRecord, empty_record, record_bytes, head_bytes}
use Rattle.sc_field.specs.Gf256.{gf256_product}
use Rattle.sc_code.specs.Parity.{parity}
use Rattle.sc_slots.specs.declared.protect.ProtectFault.{ProtectFault}
use Rattle.sc_slots.specs.Frame.{IsBlank}
use Rattle.sc_slots.specs.Slot.{IsSlot, slot_packet, slot_record}
use Rattle.sc_slots.specs.Protected.{Protection, has_kind, rtp_part, blocks, stream, source_of, timestamp_of, slot_at, slot_text, slots_text, refusal_at, at_index, or_else, first_below, first_refused, protected}
use Rattle.sc_slots.specs.ProtectedLaws.{IsProtectable, slot_records}
use Rattle.sc_slots.proofs.BlankLaws.{blank-replicate}
use Rattle.sc_slots.proofs.FrameLaws.{length-frame_bytes}
use Rattle.sc_slots.proofs.SlotLaws.{length-slot_packet, well_shaped-there}
use Rattle.sc_slots.proofs.ProtectedLaws.{refusal-is, refusal_by, frame_in, zero_blocks, block-front}

-- ---- what isn't refused

none_both : (n : ℕ) (o : Option (ℕ × ProtectFault)) (r : Option ProtectFault) → or_else o (at_index n r) ≡ None → (o ≡ None) × (r ≡ None)
none_both n (Some x) r h = absurd (cc)
none_both n None (Some f) h = absurd (cc)
none_both n None None h = (refl, refl)

accepted_each : (p : Protection) (es : List Record) (n i : ℕ) → first_below p es n ≡ None → i < n → refusal_at p es i ≡ None
accepted_each p es zero i h lt = absurd (omega arith)
accepted_each p es (suc n) i h lt =
    let both = none_both n (first_below p es n) (refusal_at p es n) h in
    elim (cases_lt i n) [
      | inl less ↦ accepted_each p es n i both.0 less
      | inr other ↦ (let same : n ≡ i = omega arith in subst (λ k. refusal_at p es k ≡ None) same both.1)
    ]

within_limit : (a b c d : Bool) (i l : ℕ) → refusal_by a b c d i l ≡ None → a ≡ false
within_limit true b c d i l h = absurd (cc)
within_limit false b c d i l h = refl

within_size : (a b c d : Bool) (i l : ℕ) → refusal_by a b c d i l ≡ None → b ≡ true → c ≡ false
within_size true b c d i l h g = absurd (cc)
within_size false false c d i l h g = absurd (cc)
within_size false true true d i l h g = absurd (cc)
within_size false true false d i l h g = refl

-- there are at most 8,000,000 records
few_records : (p : Protection) (es : List Record) → first_refused p es ≡ None → length es ≤ 8000000
few_records p es h = elim (cases_lt 8000000 (length es)) [
  | inr few ↦ omega arith
  | inl many ↦
      let e = get_or es 8000000 empty_record in
      let n = length (rtp_part (take 8000000 es)) in
      let ok = accepted_each p es (length es) 8000000 h many in
      let no : nat_le 8000000 8000000 ≡ false =
      within_limit (nat_le 8000000 8000000) (has_kind Rtp e) (nat_lt p.size (length e.body)) (nat_le (4000000 - p.deadline) n) 8000000 (length e.body) (sym (refusal-is p 8000000 n e) ∙ ok) in
      absurd (cc)
]

-- and no RTP packet is too long
short_at : (p : Protection) (es : List Record) (i : ℕ) → first_refused p es ≡ None → i < length es → has_kind Rtp (get_or es i empty_record) ≡ true → length (get_or es i empty_record).body ≤ p.size
short_at p es i h lt k =
    let e = get_or es i empty_record in
    let n = length (rtp_part (take i es)) in
    ltb-false p.size (length e.body)
    (within_size (nat_le 8000000 i) (has_kind Rtp e) (nat_lt p.size (length e.body)) (nat_le (4000000 - p.deadline) n) i (length e.body) (sym (refusal-is p i n e) ∙ accepted_each p es (length es) i h lt) k)

-- ---- what holds of each RTP record

filter_by : (P : Record → Type 0) (e : Record) (es : List Record) (b : Bool) → has_kind Rtp e ≡ b → (has_kind Rtp e ≡ true → P e) → AllByRecursion P (rtp_part es) → AllByRecursion P (cond b (e ∷ rtp_part es) (rtp_part es))
filter_by P e es true k h rest = (h k, rest)
filter_by P e es false k h rest = rest

all_rtp : (P : Record → Type 0) (es : List Record) → ((i : ℕ) → i < length es → has_kind Rtp (get_or es i empty_record) ≡ true → P (get_or es i empty_record)) → AllByRecursion P (rtp_part es)
all_rtp P [] h = tt
all_rtp P (e ∷ es) h = filter_by P e es (has_kind Rtp e) refl (h 0 (omega arith)) (all_rtp P es (λ i lt. h (suc i) (omega arith)))

all_at : (P : Record → Type 0) (es : List Record) (i : ℕ) → AllByRecursion P es → i < length es → P (get_or es i empty_record)
all_at P [] i h lt = absurd (omega arith)
all_at P (e ∷ es) zero h lt = h.0
all_at P (e ∷ es) (suc i) h lt = all_at P es i h.1 (omega arith)

-- bytes that are numbers below 256, in two parts
front_bytes : (xs ys : List ℕ) → AreBytes (xs ++ ys) → AreBytes xs
front_bytes [] ys f zero = omega arith
front_bytes [] ys f (suc i) = omega arith
front_bytes (x ∷ xs) ys f zero = f 0
front_bytes (x ∷ xs) ys f (suc i) = front_bytes xs ys (λ k. f (suc k)) i

back_bytes : (xs ys : List ℕ) → AreBytes (xs ++ ys) → AreBytes ys
back_bytes [] ys f i = f i
back_bytes (x ∷ xs) ys f i = back_bytes xs ys (λ k. f (suc k)) i

body_bytes : (e : Record) → AreBytes (record_bytes e) → AreBytes e.body
unfolding record_bytes
body_bytes e f = back_bytes (head_bytes (8 + length e.body) e.plen e.offset) e.body f

all_bytes : (es : List Record) → AreBytes (records_bytes es) → AllByRecursion (λ e. AreBytes e.body) es
all_bytes [] f = tt
all_bytes (e ∷ es) f = (body_bytes e (front_bytes (record_bytes e) (records_bytes es) f), all_bytes es (back_bytes (record_bytes e) (records_bytes es) f))

-- what a source record is
record IsSource (p : Protection) (e : Record) : Type 0 where
  offset : e.offset < 2 ^ 32
  timestamp : timestamp_of e.body < 2 ^ 32

no_bytes : AreBytes []
no_bytes zero = omega arith
no_bytes (suc i) = omega arith

-- the RTP records of a capture that can be protected
record Sources (p : Protection) (rtp : List Record) : Type 0 where
  few : length rtp ≤ 8000000
  each : AllByRecursion (IsSource p) rtp
  short : AllByRecursion (λ e. 6 + length e.body ≤ p.code.k * p.m) rtp

sources_there : (p : Protection) (input pre : List ℕ) (es : List Record) → IsCapture input pre es → IsProtectable p input es → Sources p (rtp_part es)
sources_there p input pre es c h =
    let bytes = all_bytes es (back_bytes pre (records_bytes es) (subst AreBytes c.parts h.bytes)) in
    record {
      few = omega (arith, few_records p es h.accepted, length-filter (has_kind Rtp) es, count_by-le-length (has_kind Rtp) es);
      each = all_rtp (IsSource p) es (λ i lt k.
          let fits = all_at IsRecord es i c.records_are lt in
          record { offset = fits.offset; timestamp = (head_of-fits (get_or es i empty_record).body (all_at (λ e. AreBytes e.body) es i bytes lt)).timestamp });
      short = all_rtp (λ e. 6 + length e.body ≤ p.code.k * p.m) es (λ i lt k. omega (arith, short_at p es i h.accepted lt k, h.fits));
    }

source_is : (p : Protection) (rtp : List Record) (t : ℕ) → AllByRecursion (IsSource p) rtp → IsSource p (source_of rtp t)
source_is p rtp t each =
    let place = min t (length rtp - 1) in
    elim (cases_lt 0 (length rtp)) [
      | inl some ↦ all_at (IsSource p) rtp place each (omega arith)
      | inr none ↦
          let past : get_or rtp (min t (length rtp - 1)) empty_record ≡ empty_record = get_or_past rtp place empty_record (omega arith) in
          let empty : IsSource p empty_record = record { offset = omega arith; timestamp = (head_of-fits [] no_bytes).timestamp } in
          subst (IsSource p) (sym past) empty
    ]

-- ---- a slot

-- the block of slot t
record IsBlockOf (p : Protection) (rtp : List Record) (t : ℕ) : Type 0 where
  size : length (get_or (blocks p rtp) t []) ≡ p.code.k * p.m
  flush : t + 1 - length rtp ≢ 0 → IsBlank (get_or (blocks p rtp) t [])

block_is : (p : Protection) (rtp : List Record) (t : ℕ) → Sources p rtp → t < length rtp + p.deadline → IsBlockOf p rtp t
block_is p rtp t s h = elim (cases_lt t (length rtp)) [
  | inl source ↦
      let e = get_or rtp t empty_record in
      let is = block-front p rtp (zero_blocks p) t source in
      record {
        size = ap length is ∙ length-frame_bytes e.offset e.body (p.code.k * p.m) (all_at (λ e. 6 + length e.body ≤ p.code.k * p.m) rtp t s.short source);
        flush = λ no. absurd (no (omega arith));
      }
  | inr past ↦
      let zeros : List ℕ = replicate (p.code.k * p.m) 0 in
      let is : get_or (blocks p rtp) t [] ≡ replicate (p.code.k * p.m) 0 =
      get_or-append_right (map (frame_in p) rtp) (zero_blocks p) (length rtp) t [] (length-map rtp (frame_in p)) (omega arith)
      ∙ get_or-replicate p.deadline (t - length rtp) zeros [] (omega arith) in
      record {
        size = ap length is ∙ length-replicate (p.code.k * p.m) 0;
        flush = λ no. blank-replicate (get_or (blocks p rtp) t []) (p.code.k * p.m) is;
      }
]

length-concat : (m : ℕ) (xss : List (List ℕ)) → AllByRecursion (λ xs. length xs ≡ m) xss → length (concat xss) ≡ length xss * m
length-concat m [] h = omega arith
length-concat m (xs ∷ xss) h =
    let e : suc (length xss) * m ≡ m + length xss * m = omega arith in
    length-append xs (concat xss) ∙ omega (arith, h.0, length-concat m xss h.1, e)

all_rows : {A : Type 0} (P : A → Type 0) (f : ℕ → A) (a n : ℕ) → ((j : ℕ) → j < a + n → P (f j)) → AllByRecursion P (map f (range_with_len a n))
all_rows P f a zero each = tt
all_rows P f a (suc n) each = (each a (omega arith), all_rows P f (a + 1) n (λ j small. each j (omega arith)))

parity_size : (p : Protection) (rtp : List Record) (t : ℕ) → length (concat (parity 0 gf256_product p.code p.m (stream p rtp) t)) ≡ p.code.r * p.m
parity_size p rtp t =
    let rows = parity 0 gf256_product p.code p.m (stream p rtp) t in
    length-concat p.m rows (all_rows (λ xs. length xs ≡ p.m) _ 0 p.code.r (λ j small. length-map-range_with_len _ 0 p.m))
    ∙ ap (λ n. n * p.m) (length-map-range_with_len _ 0 p.code.r)

pub slot_is : (p : Protection) (input pre : List ℕ) (es : List Record) → IsCapture input pre es → IsProtectable p input es → (t : ℕ) → t < length (rtp_part es) + p.deadline
    → IsSlot p.code.k p.code.r p.deadline (slot_at p (rtp_part es) t)
slot_is p input pre es c h t lt =
    let rtp = rtp_part es in
    let s = sources_there p input pre es c h in
    let b = block_is p rtp t s lt in
    let one = h.code.in_range.some_symbol in
    record {
      fits = record {
        number = omega (arith, s.few, h.deadline);
        end = omega (arith, h.deadline);
        m = width_small p.code.k p.code.r p.m one h.limit;
        timestamp = (source_is p rtp t s.each).timestamp;
      };
      packet = record { block = b.size; parity = parity_size p rtp t; limit = h.limit };
      some = h.some;
      by_deadline = omega arith;
      by_number = omega arith;
      flush = b.flush;
    }
  where
    width_small : (k r m : ℕ) → 1 ≤ k → 24 + (k + r) * m ≤ 65527 → m < 2 ^ 16
    width_small (suc k) r m h l = let e : (suc k + r) * m ≡ m + (k + r) * m = omega arith in omega (arith, e, l)
    width_small zero r m h l = absurd (omega arith)

record_is : (p : Protection) (input pre : List ℕ) (es : List Record) → IsCapture input pre es → IsProtectable p input es → (t : ℕ) → t < length (rtp_part es) + p.deadline
    → IsRecord (slot_record p.code.k p.code.r (source_of (rtp_part es) t).offset (slot_at p (rtp_part es) t))
record_is p input pre es c h t lt =
    let rtp = rtp_part es in
    let is = slot_is p input pre es c h t lt in
    let size : length (slot_packet p.code.k p.code.r (slot_at p (rtp_part es) t)) ≡ 24 + (p.code.k + p.code.r) * p.m = length-slot_packet p.code.k p.code.r (slot_at p rtp t) is.packet in
    record {
      plen = omega (arith, size, h.limit);
      offset = (source_is p rtp t (sources_there p input pre es c h).each).offset;
      body = omega (arith, size, h.limit);
    }

kind_is : (p : Protection) (input pre : List ℕ) (es : List Record) → IsCapture input pre es → IsProtectable p input es → (t : ℕ) → t < length (rtp_part es) + p.deadline
    → kind (slot_record p.code.k p.code.r (source_of (rtp_part es) t).offset (slot_at p (rtp_part es) t)) ≡ Rtp
kind_is p input pre es c h t lt =
    let range = h.code.in_range in
    let k : p.code.k < 256 = omega (arith, range.size_limit) in
    let r : p.code.r < 256 = omega (arith, range.size_limit) in
    (well_shaped-there p.code.k p.code.r p.deadline (source_of (rtp_part es) t).offset (slot_at p (rtp_part es) t) k r (slot_is p input pre es c h t lt)).2.kind_is

-- ---- all of them

flat_map-map : {A B : Type 0} (g : B → List ℕ) (f : A → B) (xs : List A) → flat_map g (map f xs) ≡ flat_map (λ x. g (f x)) xs
flat_map-map g f [] = refl
flat_map-map g f (x ∷ xs) = ap (λ l. g (f x) ++ l) (flat_map-map g f xs)

slots_spelled : (p : Protection) (rtp : List Record) → slots_text p rtp 0 (length rtp + p.deadline) ≡ records_bytes (slot_records p rtp)
unfolding slot_text
slots_spelled p rtp = sym (flat_map-map record_bytes (λ t. slot_record p.code.k p.code.r (source_of rtp t).offset (slot_at p rtp t)) (range_with_len 0 (length rtp + p.deadline)))

pub protected-capture : (p : Protection) (input pre : List ℕ) (es : List Record) → IsCapture input pre es → IsProtectable p input es → IsCapture (protected p pre es) pre (slot_records p (rtp_part es))
protected-capture p input pre es c h = record {
  preamble_is = c.preamble_is;
  records_are = all_rows IsRecord _ 0 (length (rtp_part es) + p.deadline) (λ t lt. record_is p input pre es c h t (omega arith));
  parts = ap (λ l. pre ++ l) (slots_spelled p (rtp_part es));
}

pub protected-count : (p : Protection) (rtp : List Record) → length (slot_records p rtp) ≡ length rtp + p.deadline
protected-count p rtp = length-map-range_with_len _ 0 (length rtp + p.deadline)

pub protected-kind : (p : Protection) (input pre : List ℕ) (es : List Record) → IsCapture input pre es → IsProtectable p input es → AllByRecursion (λ e. kind e ≡ Rtp) (slot_records p (rtp_part es))
protected-kind p input pre es c h = all_rows (λ e. kind e ≡ Rtp) _ 0 (length (rtp_part es) + p.deadline) (λ t lt. kind_is p input pre es c h t (omega arith))
