-- Protected packets and what they are read as.
use Rattle.std.proofs.Common.{◌≡◌, ◌≢◌, ◌⊎◌, inl, inr, ℕ, ◌+◌, ◌*◌, ◌%◌, ◌<◌, ◌≤◌, ◌==◌, nat_lt, false, codes, List, [], ◌∷◌, ◌++◌, length, take, drop, refl, sym, ap, ◌∙◌, subst, arith, append_assoc, length-append}
use Rattle.std.proofs.lemmas.Bool.{cases_Bool, eqb-true, eqb-false, ltb-true, ltb-false}
use Rattle.std.proofs.lemmas.Bool.Decides.{nat_tests}
use Rattle.std.proofs.lemmas.List.{take_at, drop_at, take-append-drop, length-take-le, length-drop}
use Rattle.std.specs.Int.{w16, w32, to_be_bytes}
use Rattle.sc_rtp.proofs.ReadingLaws.{reading_of-plain}
use Rattle.sc_rtpdump.specs.declared.kind.Kind.TheVariants.{Rtp}
use Rattle.sc_rtpdump.specs.Kind.{kind, kind_read}
use Rattle.sc_rtpdump.specs.Record.{Record, IsRecord, record_bytes, head_bytes}
use Rattle.sc_slots.specs.Frame.{IsBlank}
use Rattle.sc_slots.specs.Slot.{Slot, SlotHead, FitsFields, FitsSlot, FitsPacket, IsProtected, HasFlaw, HasBadShape, IsSlot, IsSlotRecord, Reading, stranger, wrong_code, bad_shape, slot, ReadsAs, Flaw, no_width, other_length, other_sequence, end_above_deadline, end_above_number, flush_with_block, slot_head_bytes, slot_head_of, head_of_slot, slot_packet, slot_record, slot_bytes, slot_behind}
use Rattle.sc_slots.proofs.BlankLaws.{blank-stable}
use Rattle.sc_slots.proofs.HeadLaws.{same_head, slot_head_of-spelled, behind-spelled, length-slot_head_bytes}

-- ---- how a slot is written

pub length-slot_packet : (k r : ℕ) (s : Slot) → FitsPacket k r s → length (slot_packet k r s) ≡ 24 + (k + r) * s.m
unfolding slot_packet
length-slot_packet k r s fits =
    omega (arith, length-slot_head_bytes (head_of_slot k r s) (s.block ++ s.parity), length-append s.block s.parity, fits.block, fits.parity)

pub slot_bytes-made : (k r offset len plen : ℕ) (s : Slot) (h : SlotHead) (front back : List ℕ) → FitsPacket k r s → front ≡ head_bytes len plen offset
    → back ≡ slot_head_bytes h → h ≡ head_of_slot k r s → plen ≡ 24 + (k + r) * s.m → len ≡ 8 + plen
    → (front ++ back) ++ (s.block ++ s.parity) ≡ slot_bytes k r offset s
unfolding slot_packet record_bytes
slot_bytes-made k r offset len plen s h front back fits is_front is_back same is_plen is_len =
    let packet = slot_packet k r s in
    let size : plen ≡ length packet = is_plen ∙ sym (length-slot_packet k r s fits) in
    let whole : len ≡ 8 + length packet = omega (arith, is_len, size) in
    append_assoc front back (s.block ++ s.parity)
    ∙ ap (λ (l : List ℕ). l ++ (back ++ (s.block ++ s.parity))) is_front
    ∙ ap (λ (l : List ℕ). head_bytes len plen offset ++ (l ++ (s.block ++ s.parity))) (is_back ∙ ap slot_head_bytes same)
    ∙ ap (λ (n : ℕ). head_bytes n plen offset ++ packet) whole
    ∙ ap (λ (n : ℕ). head_bytes (8 + length packet) n offset ++ packet) size

-- ---- one reading

one_head : (e : Record) (g h : SlotHead) (p q : List ℕ) → IsProtected e g p → IsProtected e h q → g ≡ h
one_head e g h p q x y =
    sym (slot_head_of-spelled g p x.fits) ∙ ap slot_head_of (sym x.parts ∙ y.parts) ∙ slot_head_of-spelled h q y.fits

one_rest : (e : Record) (g h : SlotHead) (p q : List ℕ) → IsProtected e g p → IsProtected e h q → p ≡ q
one_rest e g h p q x y = sym (behind-spelled g p) ∙ ap (λ (l : List ℕ). drop 24 l) (sym x.parts ∙ y.parts) ∙ behind-spelled h q

codes_apart : (k r : ℕ) (g h : SlotHead) → g ≡ h → (g.k ≢ k) ⊎ (g.r ≢ r) → h.k ≡ k → h.r ≡ r → ⊥
codes_apart k r g h same (inl other) is_k is_r = other (ap (λ (x : SlotHead). x.k) same ∙ is_k)
codes_apart k r g h same (inr other) is_k is_r = other (ap (λ (x : SlotHead). x.r) same ∙ is_r)

shapes_apart : (k r deadline : ℕ) (g h : SlotHead) (p q : List ℕ) → g ≡ h → p ≡ q → HasBadShape k r deadline g p → (HasBadShape k r deadline h q → ⊥) → ⊥
shapes_apart k r deadline g h p q same rest has hasnt =
    hasnt (subst (λ (x : SlotHead). HasBadShape k r deadline x q) same (subst (HasBadShape k r deadline g) rest has))

pub records_once : (k r deadline : ℕ) (e : Record) (a b : Reading) → ReadsAs k r deadline e a → ReadsAs k r deadline e b → a ≡ b
records_once k r deadline e stranger stranger x y = refl
records_once k r deadline e stranger wrong_code x y = absurd (x y.0 y.1 y.2)
records_once k r deadline e stranger bad_shape x y = absurd (x y.0 y.1 y.2)
records_once k r deadline e stranger (slot s) x y = absurd (x y.0 y.1 y.2)
records_once k r deadline e wrong_code stranger x y = absurd (y x.0 x.1 x.2)
records_once k r deadline e wrong_code wrong_code x y = refl
records_once k r deadline e wrong_code bad_shape x y = absurd (codes_apart k r x.0 y.0 (one_head e x.0 y.0 x.1 y.1 x.2 y.2) x.3 y.3 y.4)
records_once k r deadline e wrong_code (slot s) x y = absurd (codes_apart k r x.0 y.0 (one_head e x.0 y.0 x.1 y.1 x.2 y.2) x.3 y.3 y.4)
records_once k r deadline e bad_shape stranger x y = absurd (y x.0 x.1 x.2)
records_once k r deadline e bad_shape wrong_code x y = absurd (codes_apart k r y.0 x.0 (one_head e y.0 x.0 y.1 x.1 y.2 x.2) y.3 x.3 x.4)
records_once k r deadline e bad_shape bad_shape x y = refl
records_once k r deadline e bad_shape (slot s) x y =
    absurd (shapes_apart k r deadline x.0 y.0 x.1 y.1 (one_head e x.0 y.0 x.1 y.1 x.2 y.2) (one_rest e x.0 y.0 x.1 y.1 x.2 y.2) x.5 y.5)
records_once k r deadline e (slot s) stranger x y = absurd (y x.0 x.1 x.2)
records_once k r deadline e (slot s) wrong_code x y = absurd (codes_apart k r y.0 x.0 (one_head e y.0 x.0 y.1 x.1 y.2 x.2) y.3 x.3 x.4)
records_once k r deadline e (slot s) bad_shape x y =
    absurd (shapes_apart k r deadline y.0 x.0 y.1 x.1 (one_head e y.0 x.0 y.1 x.1 y.2 x.2) (one_rest e y.0 x.0 y.1 x.1 y.2 x.2) y.5 x.5)
records_once k r deadline e (slot s) (slot t) x y =
    ap slot (x.6
    ∙ ap (λ (h : SlotHead). slot_behind k h x.1) (one_head e x.0 y.0 x.1 y.1 x.2 y.2)
    ∙ ap (slot_behind k y.0) (one_rest e x.0 y.0 x.1 y.1 x.2 y.2)
    ∙ sym y.6)

-- ---- a slot is read back

same_slot : (n e m t : ℕ) (b p : List ℕ) (s : Slot) → n ≡ s.number → e ≡ s.end → m ≡ s.m → t ≡ s.timestamp → b ≡ s.block → p ≡ s.parity
    → (let z : Slot = record { number = n; end = e; m = m; timestamp = t; block = b; parity = p } in z)
    ≡ record { number = s.number; end = s.end; m = s.m; timestamp = s.timestamp; block = s.block; parity = s.parity }
same_slot n e m t b p s a c d f i j = cc

slot_behind-parts : (k : ℕ) (r : ℕ) (s : Slot) → FitsPacket k r s → slot_behind k (head_of_slot k r s) (s.block ++ s.parity) ≡ s
slot_behind-parts k r s fits =
    let front = take_at s.block s.parity (k * s.m) fits.block in
    let back = drop_at s.block s.parity (k * s.m) fits.block in
    let same = same_slot _ _ _ _ _ _ s refl refl refl refl front back in
    same

-- a protected packet that is whole is of the kind Rtp
slot_kind : (k r offset : ℕ) (s : Slot) → FitsSlot s → kind (slot_record k r offset s) ≡ Rtp
unfolding kind slot_packet slot_head_bytes
slot_kind k r offset s fits =
    let packet = slot_packet k r s in
    let behind : length (slot_packet k r s) ≡ 24 + length (s.block ++ s.parity) = length-slot_head_bytes (head_of_slot k r s) (s.block ++ s.parity) in
    let there : (length (slot_packet k r s) == 0) ≡ false = grind (arith, nat_tests) in
    let whole : nat_lt (length (slot_packet k r s)) (length (slot_packet k r s)) ≡ false = grind (arith, nat_tests) in
    let payload : List ℕ =
    (codes "SC" ++ (1 ∷ k ∷ r ∷ s.end ∷ [] ++ (to_be_bytes w16 s.m ++ to_be_bytes w32 s.number))) ++ (s.block ++ s.parity) in
    let read = reading_of-plain 96 (s.number % 65536) s.timestamp 0x53434431 payload (omega arith) (omega arith) fits.timestamp (omega arith) in
    rw (there, whole) (ap kind_read read)

head_of_slot-fits : (k r : ℕ) (s : Slot) → k < 256 → r < 256 → FitsSlot s → FitsFields (head_of_slot k r s)
head_of_slot-fits k r s small_k small_r fits = record {
  sequence = omega arith;
  timestamp = fits.timestamp;
  k = small_k;
  r = small_r;
  end = fits.end;
  m = fits.m;
  number = fits.number;
}

slot_protected : (k r offset : ℕ) (s : Slot) → k < 256 → r < 256 → FitsSlot s → IsProtected (slot_record k r offset s) (head_of_slot k r s) (s.block ++ s.parity)
unfolding slot_packet
slot_protected k r offset s small_k small_r fits = record {
  kind_is = slot_kind k r offset s fits;
  fits = head_of_slot-fits k r s small_k small_r fits;
  parts = refl;
}

pub slot-there : (k r deadline offset : ℕ) (s : Slot) → k < 256 → r < 256 → FitsSlot s → FitsPacket k r s
    → (HasBadShape k r deadline (head_of_slot k r s) (s.block ++ s.parity) → ⊥) → ReadsAs k r deadline (slot_record k r offset s) (slot s)
slot-there k r deadline offset s small_k small_r fits packet hasnt =
    (head_of_slot k r s, s.block ++ s.parity, slot_protected k r offset s small_k small_r fits, refl, refl, hasnt, sym (slot_behind-parts k r s packet))

-- a well shaped slot has no flaw
flawless : (k r deadline : ℕ) (s : Slot) → IsSlot k r deadline s → (f : Flaw) → HasFlaw k r deadline (head_of_slot k r s) (s.block ++ s.parity) f → ⊥
flawless k r deadline s is no_width h = omega (arith, h, is.some)
flawless k r deadline s is other_length h = h (omega (arith, length-append s.block s.parity, is.packet.block, is.packet.parity))
flawless k r deadline s is other_sequence h = h refl
flawless k r deadline s is end_above_deadline h = omega (arith, h, is.by_deadline)
flawless k r deadline s is end_above_number h = omega (arith, h, is.by_number)
flawless k r deadline s is flush_with_block h =
    h.1 (subst IsBlank (sym (take_at s.block s.parity (k * s.m) is.packet.block)) (is.flush h.0))

no_flaw : (k r deadline : ℕ) (s : Slot) → IsSlot k r deadline s → HasBadShape k r deadline (head_of_slot k r s) (s.block ++ s.parity) → ⊥
no_flaw k r deadline s is x = flawless k r deadline s is x.flaw x.has

pub well_shaped-there : (k r deadline offset : ℕ) (s : Slot) → k < 256 → r < 256 → IsSlot k r deadline s → ReadsAs k r deadline (slot_record k r offset s) (slot s)
well_shaped-there k r deadline offset s small_k small_r is = slot-there k r deadline offset s small_k small_r is.fits is.packet (no_flaw k r deadline s is)

-- ---- what is read as a slot is its record

equal-stable : (a b : ℕ) → (a ≢ b → ⊥) → a ≡ b
equal-stable a b wrong = elim (cases_Bool (a == b)) [ inl t ↦ eqb-true a b t | inr f ↦ absurd (wrong (eqb-false a b f)) ]

le-stable : (a b : ℕ) → (b < a → ⊥) → a ≤ b
le-stable a b wrong = elim (cases_Bool (nat_lt b a)) [ inl t ↦ absurd (wrong (ltb-true b a t)) | inr f ↦ ltb-false b a f ]

sound : (k r deadline : ℕ) (h : SlotHead) (rest : List ℕ) → (HasBadShape k r deadline h rest → ⊥) → (f : Flaw) → HasFlaw k r deadline h rest f → ⊥
sound k r deadline h rest hasnt f x = hasnt (record { flaw = f; has = x })

-- a record of the kind Rtp has the whole packet
kind_plen : (e : Record) → kind e ≡ Rtp → e.plen ≡ length e.body
unfolding kind
kind_plen e is = grind (arith, nat_tests)

-- what is behind a head without a flaw makes a slot
slot_behind-shape : (k r deadline : ℕ) (e : Record) (h : SlotHead) (rest : List ℕ) → IsRecord e → IsProtected e h rest
    → (HasBadShape k r deadline h rest → ⊥) → IsSlot k r deadline (slot_behind k h rest)
slot_behind-shape k r deadline e h rest is p hasnt =
    let none = sound k r deadline h rest hasnt in
    let long : 24 + length rest ≡ 24 + (k + r) * h.m = equal-stable (24 + length rest) (24 + (k + r) * h.m) (none other_length) in
    let whole : length e.body ≡ 24 + length rest = ap length p.parts ∙ length-slot_head_bytes h rest in
    let width : h.m ≢ 0 = none no_width in
    record {
      fits = record { number = p.fits.number; end = p.fits.end; m = p.fits.m; timestamp = p.fits.timestamp };
      packet = record {
        block = length-take-le (k * h.m) rest (omega (arith, long));
        parity = omega (arith, length-drop (k * h.m) rest, long);
        limit = omega (arith, long, whole, is.body);
      };
      some = omega (arith, width);
      by_deadline = le-stable h.end deadline (none end_above_deadline);
      by_number = le-stable h.end (h.number + 1) (none end_above_number);
      flush = λ ends. blank-stable (take (k * h.m) rest) (λ other. none flush_with_block (ends, other));
    }

head_of_slot-behind : (k r : ℕ) (h : SlotHead) (rest : List ℕ) → h.k ≡ k → h.r ≡ r → h.sequence ≡ h.number % 65536 → head_of_slot k r (slot_behind k h rest) ≡ h
head_of_slot-behind k r h rest is_k is_r sequence = same_head _ _ _ _ _ _ _ h (sym sequence) refl (sym is_k) (sym is_r) refl refl refl

slot_packet-behind : (k r : ℕ) (h : SlotHead) (rest : List ℕ) → head_of_slot k r (slot_behind k h rest) ≡ h
    → slot_packet k r (slot_behind k h rest) ≡ slot_head_bytes h ++ rest
unfolding slot_packet
slot_packet-behind k r h rest same =
    ap (λ (g : SlotHead). slot_head_bytes g ++ (take (k * h.m) rest ++ drop (k * h.m) rest)) same
    ∙ ap (λ (l : List ℕ). slot_head_bytes h ++ l) (take-append-drop (k * h.m) rest)

slot_record-is : (k r : ℕ) (e : Record) (s : Slot) → e.plen ≡ length e.body → slot_packet k r s ≡ e.body → e ≡ slot_record k r e.offset s
slot_record-is k r e s whole packet =
    ap (λ (n : ℕ). let x : Record = record { plen = n; offset = e.offset; body = e.body } in x) whole
    ∙ ap (λ (l : List ℕ). let x : Record = record { plen = length l; offset = e.offset; body = l } in x) (sym packet)

pub slot_behind-record : (k r deadline : ℕ) (e : Record) (h : SlotHead) (rest : List ℕ) → IsRecord e → IsProtected e h rest → h.k ≡ k → h.r ≡ r
    → (HasBadShape k r deadline h rest → ⊥) → IsSlotRecord k r deadline e (slot_behind k h rest)
slot_behind-record k r deadline e h rest is p is_k is_r hasnt =
    let sequence = equal-stable h.sequence (h.number % 65536) (sound k r deadline h rest hasnt other_sequence) in
    record {
      is = slot_behind-shape k r deadline e h rest is p hasnt;
      spelled = slot_record-is k r e (slot_behind k h rest) (kind_plen e p.kind_is)
          (slot_packet-behind k r h rest (head_of_slot-behind k r h rest is_k is_r sequence) ∙ sym p.parts);
    }

pub slot-read : (k r deadline : ℕ) (e : Record) (s : Slot) → IsRecord e → ReadsAs k r deadline e (slot s) → IsSlotRecord k r deadline e s
slot-read k r deadline e s is x =
    subst (IsSlotRecord k r deadline e) (sym x.6) (slot_behind-record k r deadline e x.0 x.1 is x.2 x.3 x.4 x.5)
