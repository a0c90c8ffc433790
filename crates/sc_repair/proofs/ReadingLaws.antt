-- The readings of specs/Readings are what the definitions of sc_slots say: what a record and a block are read as.
use Rattle.std.proofs.Common.{◌≡◌, ◌≢◌, ◌⊎◌, inl, inr, ℕ, ◌+◌, ◌*◌, ◌%◌, ◌-◌, ◌^◌, ◌<◌, ◌≤◌, ◌&&◌, nat_eq, nat_le, bytes_eq, Bool, true, false, List, ◌++◌, length, get_or, take, drop, All, Decides, if◌then◌else◌, refl, sym, ap, ◌∙◌, arith}
use Rattle.std.specs.List.{concat}
use Rattle.std.proofs.lemmas.Bool.{cases_lt, both_ways, and_parts, and_from, and_cases, eqb-true, eqb-false, eq-eqb, leb-true, le-leb}
use Rattle.std.proofs.lemmas.Bool.Decides.{Decides-eqb, Decides-ltb, Decides-not, Decides-and, Decides-or, Decides-like, not_from_Decides}
use Rattle.std.proofs.lemmas.Slice.Eq.{bytes_eq-Decides}
use Rattle.std.proofs.lemmas.List.{length-drop, length-take-le, take-append-drop, get_or_default, get_or_past}
use Rattle.std.proofs.lemmas.List.Sums.{AllPass-from_list_all, list_all-from_AllPass}
use Rattle.sc_matrix.specs.Module.{IsByte}
use Rattle.sc_code.specs.Stream.{IsBlock}
use Rattle.sc_rtp.specs.Reading.{AreBytes}
use Rattle.sc_rtp.proofs.WordLaws.{number16-fits, number32-fits}
use Rattle.sc_rtpdump.specs.declared.kind.Kind.{Kind}
use Rattle.sc_rtpdump.specs.declared.kind.Kind.TheVariants.{Rtcp, Cut, Strange, Rtp}
use Rattle.sc_rtpdump.specs.Kind.{kind}
use Rattle.sc_rtpdump.specs.Record.{Record}
use Rattle.sc_slots.specs.Frame.{frame_bytes, IsBlank, IsFrame, Unframed, blank, framed, bad, Unframes}
use Rattle.sc_slots.specs.Protected.{is_kind, has_kind}
use Rattle.sc_slots.specs.Slot.{SlotHead, Reading, stranger, wrong_code, bad_shape, slot, IsProtected, Flaw, no_width, other_length, other_sequence, end_above_deadline, end_above_number, flush_with_block, HasFlaw, HasBadShape, ReadsAs, slot_head_of, slot_head_bytes, slot_behind}
use Rattle.sc_slots.proofs.BlankLaws.{blank-each, each-blank, blank-stable}
use Rattle.sc_slots.proofs.HeadLaws.{slot_head_of-fits, slot_head_of-spelled}
use Rattle.sc_slots.proofs.SlotLaws.{records_once}
use Rattle.sc_slots.proofs.FrameLaws.{blocks_once, frame-read, no_frame-empty, no_frame-long, no_frame-tail}
use Rattle.sc_repair.proofs.ValueLaws.{block-bytes}
use Rattle.sc_repair.specs.Readings.{are_zero, is_protected, has_bad_shape, reading_behind, record_reading, frame_len, frame_offset, frame_packet, is_frame, block_reading}

-- bytes, wherever they are looked for
pub AreBytes-all : (bytes : List ℕ) → All IsByte bytes → AreBytes bytes
AreBytes-all bytes h i =
    elim (cases_lt i (length bytes)) [
      | inl within ↦ h i 0 within
      | inr past ↦ (let e : get_or bytes i 0 ≡ 0 = get_or_past bytes i 0 past in omega arith)
    ]

-- the bytes of a block
pub AreBytes-block : (k m : ℕ) (block : List (List ℕ)) → IsBlock k m block → AreBytes (concat block)
AreBytes-block k m block h = AreBytes-all (concat block) (block-bytes k m block h).entries

are_zero-Decides : (bytes : List ℕ) → Decides (are_zero bytes) (IsBlank bytes)
are_zero-Decides bytes = (
  λ is. blank-each bytes (λ i lt. eqb-true (get_or bytes i 0) 0 (AllPass-from_list_all (λ byte. nat_eq byte 0) bytes is i 0 lt)),
  λ zeros. list_all-from_AllPass (λ byte. nat_eq byte 0) bytes (λ i d lt. eq-eqb (get_or bytes i d) 0 (get_or_default bytes i d 0 lt ∙ each-blank bytes i zeros lt)),
)

-- ---- records

is_kind-rtp : (x : Kind) → is_kind Rtp x ≡ true → x ≡ Rtp
is_kind-rtp Rtcp is = absurd (cc)
is_kind-rtp Cut is = absurd (cc)
is_kind-rtp Strange is = absurd (cc)
is_kind-rtp Rtp is = refl

first-spelled : (h : SlotHead) (rest : List ℕ) → take 24 (slot_head_bytes h ++ rest) ≡ slot_head_bytes h
unfolding slot_head_bytes
first-spelled h rest = refl

protected-true : (e : Record) → AreBytes e.body → is_protected e ≡ true → IsProtected e (slot_head_of e.body) (drop 24 e.body)
protected-true e are is =
    let both = and_parts (has_kind Rtp e) (bytes_eq (take 24 e.body) (slot_head_bytes (slot_head_of e.body))) is in
    let first = (bytes_eq-Decides (take 24 e.body) (slot_head_bytes (slot_head_of e.body))).0 both.1 in
    record {
      kind_is = is_kind-rtp (kind e) both.0;
      fits = slot_head_of-fits e.body are;
      parts = sym (take-append-drop 24 e.body) ∙ ap (λ (l : List ℕ). l ++ drop 24 e.body) first;
    }

pub protected-is : (e : Record) (h : SlotHead) (rest : List ℕ) → IsProtected e h rest → is_protected e ≡ true
protected-is e h rest p =
    let head : slot_head_of e.body ≡ h = ap slot_head_of p.parts ∙ slot_head_of-spelled h rest p.fits in
    let first : take 24 e.body ≡ slot_head_bytes (slot_head_of e.body) =
    ap (take 24) p.parts ∙ first-spelled h rest ∙ ap slot_head_bytes (sym head) in
    and_from (has_kind Rtp e) (bytes_eq (take 24 e.body) (slot_head_bytes (slot_head_of e.body))) (ap (is_kind Rtp) p.kind_is)
    ((bytes_eq-Decides (take 24 e.body) (slot_head_bytes (slot_head_of e.body))).1 first)

module _ (k r deadline : ℕ) where
  -- ---- what isn't well shaped

  -- the flaws, one or another
  abbrev OneFlaw : SlotHead → List ℕ → Type 0
  OneFlaw h rest =
      (h.m ≡ 0) ⊎ ((24 + length rest ≢ 24 + (k + r) * h.m) ⊎ ((h.sequence ≢ h.number % 65536) ⊎ ((deadline < h.end) ⊎ ((h.number + 1 < h.end)
      ⊎ ((h.end ≢ 0) × (IsBlank (take (k * h.m) rest) → ⊥))))))

  has_one : (h : SlotHead) (rest : List ℕ) → OneFlaw h rest → HasBadShape k r deadline h rest
  has_one h rest (inl x) = record { flaw = no_width; has = x }
  has_one h rest (inr (inl x)) = record { flaw = other_length; has = x }
  has_one h rest (inr (inr (inl x))) = record { flaw = other_sequence; has = x }
  has_one h rest (inr (inr (inr (inl x)))) = record { flaw = end_above_deadline; has = x }
  has_one h rest (inr (inr (inr (inr (inl x))))) = record { flaw = end_above_number; has = x }
  has_one h rest (inr (inr (inr (inr (inr x))))) = record { flaw = flush_with_block; has = x }

  one_of : (h : SlotHead) (rest : List ℕ) (f : Flaw) → HasFlaw k r deadline h rest f → OneFlaw h rest
  one_of h rest no_width x = inl x
  one_of h rest other_length x = inr (inl x)
  one_of h rest other_sequence x = inr (inr (inl x))
  one_of h rest end_above_deadline x = inr (inr (inr (inl x)))
  one_of h rest end_above_number x = inr (inr (inr (inr (inl x))))
  one_of h rest flush_with_block x = inr (inr (inr (inr (inr x))))

  pub bad_shape-Decides : (h : SlotHead) (rest : List ℕ) → Decides (has_bad_shape k r deadline h rest) (HasBadShape k r deadline h rest)
  bad_shape-Decides h rest =
      let each : Decides (has_bad_shape k r deadline h rest) (OneFlaw h rest) =
      Decides-or _ _ (Decides-eqb h.m 0)
      (Decides-or _ _ (Decides-not _ (Decides-eqb (24 + length rest) (24 + (k + r) * h.m)))
      (Decides-or _ _ (Decides-not _ (Decides-eqb h.sequence (h.number % 65536)))
      (Decides-or _ _ (Decides-ltb deadline h.end)
      (Decides-or _ _ (Decides-ltb (h.number + 1) h.end)
      (Decides-and _ _ (Decides-not _ (Decides-eqb h.end 0)) (Decides-not _ (are_zero-Decides (take (k * h.m) rest)))))))) in
      Decides-like (has_bad_shape k r deadline h rest) (has_one h rest) (λ x. one_of h rest x.flaw x.has) each

  -- ---- what a record is read as

  shape_by : (e : Record) (h : SlotHead) (rest : List ℕ) (bad_one : Bool) → has_bad_shape k r deadline h rest ≡ bad_one → IsProtected e h rest → h.k ≡ k → h.r ≡ r
      → ReadsAs k r deadline e (if bad_one then bad_shape else slot (slot_behind k h rest))
  shape_by e h rest true is p is_k is_r = (h, rest, p, is_k, is_r, (bad_shape-Decides h rest).0 is)
  shape_by e h rest false is p is_k is_r = (h, rest, p, is_k, is_r, not_from_Decides (has_bad_shape k r deadline h rest) (bad_shape-Decides h rest) is, refl)

  other_code : (h : SlotHead) → (nat_eq h.k k && nat_eq h.r r) ≡ false → (h.k ≢ k) ⊎ (h.r ≢ r)
  other_code h isnt =
      elim (and_cases (nat_eq h.k k) (nat_eq h.r r) isnt) [
        | inl other ↦ inl (eqb-false h.k k other)
        | inr other ↦ inr (eqb-false h.r r other)
      ]

  code_by : (e : Record) (h : SlotHead) (rest : List ℕ) (same : Bool) → (nat_eq h.k k && nat_eq h.r r) ≡ same → IsProtected e h rest
      → ReadsAs k r deadline e (if same then (if has_bad_shape k r deadline h rest then bad_shape else slot (slot_behind k h rest)) else wrong_code)
  code_by e h rest true is p =
      let both = and_parts (nat_eq h.k k) (nat_eq h.r r) is in
      shape_by e h rest (has_bad_shape k r deadline h rest) refl p (eqb-true h.k k both.0) (eqb-true h.r r both.1)
  code_by e h rest false is p = (h, rest, p, other_code h is)

  record_by : (e : Record) (is_one : Bool) → is_protected e ≡ is_one → AreBytes e.body
      → ReadsAs k r deadline e (if is_one then reading_behind k r deadline (slot_head_of e.body) (drop 24 e.body) else stranger)
  record_by e true is are =
      let h = slot_head_of e.body in
      code_by e h (drop 24 e.body) (nat_eq h.k k && nat_eq h.r r) refl (protected-true e are is)
  record_by e false is are = λ h rest p. both_ways (is_protected e) is (protected-is e h rest p)

  -- a record is read as the function says
  pub record_reading-reads : (e : Record) → AreBytes e.body → ReadsAs k r deadline e (record_reading k r deadline e)
  unfolding record_reading
  record_reading-reads e are = record_by e (is_protected e) refl are

  -- and as nothing else
  pub record_reading-is : (e : Record) (x : Reading) → AreBytes e.body → ReadsAs k r deadline e x → record_reading k r deadline e ≡ x
  record_reading-is e x are h = records_once k r deadline e (record_reading k r deadline e) x (record_reading-reads e are) h

-- ---- blocks

-- the frame that the bytes of a block tell
abbrev told_frame : List ℕ → List ℕ
told_frame block = frame_bytes (frame_offset block) (frame_packet block) (length block)

frame-true : (block : List ℕ) → AreBytes block → is_frame block ≡ true → IsFrame block (frame_offset block) (frame_packet block)
frame-true block are is =
    let n = frame_len block in
    let spells = bytes_eq block (told_frame block) in
    let first = and_parts (nat_le 1 n) (nat_le (6 + n) (length block) && spells) is in
    let second = and_parts (nat_le (6 + n) (length block)) spells first.1 in
    let some : 1 ≤ n = leb-true 1 n first.0 in
    let room : 6 + n ≤ length block = leb-true (6 + n) (length block) second.0 in
    let long : length (frame_packet block) ≡ n = length-take-le n (drop 6 block) (omega (arith, length-drop 6 block)) in
    let small : n < 2 ^ 16 = number16-fits (get_or block 0 0) (get_or block 1 0) (are 0) (are 1) in
    record {
      some = omega arith;
      length_fits = omega arith;
      offset_fits = number32-fits (get_or block 2 0) (get_or block 3 0) (get_or block 4 0) (get_or block 5 0) (are 2) (are 3) (are 4) (are 5);
      room = omega arith;
      spelled = (bytes_eq-Decides block (told_frame block)).0 second.1;
    }

frame-is : (block : List ℕ) (offset : ℕ) (packet : List ℕ) → AreBytes block → IsFrame block offset packet → is_frame block ≡ true
frame-is block offset packet are f =
    let n = frame_len block in
    let all : 6 + length packet ≤ length block = f.room in
    let behind : length (drop 6 block) ≡ length block - 6 = length-drop 6 block in
    let some : n ≢ 0 = λ none. no_frame-empty block n offset packet refl none f in
    let room : n ≤ length (drop 6 block) = elim (cases_lt (length (drop 6 block)) n) [
      | inl long ↦ absurd (no_frame-long block n offset packet refl long f)
      | inr fits ↦ fits
    ] in
    let zeros = blank-stable (drop n (drop 6 block)) (λ other. no_frame-tail block n offset packet refl other f) in
    let told = frame-read block n (frame_offset block) are (omega arith) refl refl some room zeros in
    and_from (nat_le 1 n) (nat_le (6 + n) (length block) && bytes_eq block (told_frame block)) (le-leb 1 n (omega arith))
    (and_from (nat_le (6 + n) (length block)) (bytes_eq block (told_frame block)) (le-leb (6 + n) (length block) (omega arith)) ((bytes_eq-Decides block (told_frame block)).1 told.spelled))

frame_by : (block : List ℕ) (spelled : Bool) → is_frame block ≡ spelled → AreBytes block → (IsBlank block → ⊥)
    → Unframes block (if spelled then framed (frame_offset block) (frame_packet block) else bad)
frame_by block true is are other = frame-true block are is
frame_by block false is are other = (other, λ offset packet f. both_ways (is_frame block) is (frame-is block offset packet are f))

block_by : (block : List ℕ) (zeros : Bool) → are_zero block ≡ zeros → AreBytes block
    → Unframes block (if zeros then blank else (if is_frame block then framed (frame_offset block) (frame_packet block) else bad))
block_by block true is are = (are_zero-Decides block).0 is
block_by block false is are = frame_by block (is_frame block) refl are (not_from_Decides (are_zero block) (are_zero-Decides block) is)

-- a block is read as the function says
pub block_reading-unframes : (block : List ℕ) → AreBytes block → Unframes block (block_reading block)
unfolding block_reading
block_reading-unframes block are = block_by block (are_zero block) refl are

-- and as nothing else
pub block_reading-is : (block : List ℕ) (x : Unframed) → AreBytes block → Unframes block x → block_reading block ≡ x
block_reading-is block x are h = blocks_once block (block_reading block) x (block_reading-unframes block are) h
