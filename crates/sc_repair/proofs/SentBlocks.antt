-- The blocks of a protected capture: what of its records they hold, and what they write.
use Rattle.std.proofs.Common.{◌≡◌, ◌≢◌, inl, inr, ℕ, zero as naught, suc, ◌+◌, ◌*◌, ◌-◌, ◌^◌, ◌<◌, ◌≤◌, nat_eq, nat_lt, Bool, true, false, cond, List, [], ◌∷◌, ◌++◌, length, get_or, drop, replicate, refl, sym, ap, ap₂, ◌∙◌, arith}
use Rattle.std.specs.Int.{w16, w32, to_be_bytes}
use Rattle.std.specs.List.{AllByRecursion, concat}
use Rattle.std.proofs.lemmas.Bool.{cases_lt, eqb-false, ltb-false}
use Rattle.std.proofs.lemmas.List.{length-replicate, take-replicate, drop-replicate}
use Rattle.sc_matrix.specs.Layout.{cut}
use Rattle.sc_rtp.specs.Reading.{reading_of as packet_reading}
use Rattle.sc_rtpdump.specs.declared.kind.Kind.{Kind}
use Rattle.sc_rtpdump.specs.declared.kind.Kind.TheVariants.{Rtcp, Cut, Strange, Rtp}
use Rattle.sc_rtpdump.specs.Kind.{kind, kind_read}
use Rattle.sc_rtpdump.specs.Record.{Record, IsRecord, empty_record, record_bytes, head_bytes}
use Rattle.sc_rtpdump.specs.Capture.{AreBytes, records_bytes}
use Rattle.sc_code.specs.Stream.{zero_block}
use Rattle.sc_slots.specs.Frame.{frame_bytes, blank, framed}
use Rattle.sc_slots.specs.Protected.{Protection, is_kind, has_kind, rtp_part}
use Rattle.sc_slots.proofs.BlankLaws.{blank-replicate}
use Rattle.sc_slots.proofs.FrameLaws.{length-frame_bytes, frame-there}
use Rattle.sc_slots.proofs.MakerSteps.{concat-cut}
use Rattle.sc_slots.proofs.ProtectedLaws.{frame_in}
use Rattle.sc_repair.specs.Readings.{block_reading, frame_text, is_bad, block_text, is_bad_block}
use Rattle.sc_repair.proofs.ReadingLaws.{block_reading-is}

-- ---- bytes

front_bytes : (xs ys : List ℕ) → AreBytes (xs ++ ys) → AreBytes xs
front_bytes [] ys f naught = omega arith
front_bytes [] ys f (suc i) = omega arith
front_bytes (x ∷ xs) ys f naught = f 0
front_bytes (x ∷ xs) ys f (suc i) = front_bytes xs ys (λ k. f (suc k)) i

back_bytes : (xs ys : List ℕ) → AreBytes (xs ++ ys) → AreBytes ys
back_bytes [] ys f i = f i
back_bytes (x ∷ xs) ys f i = back_bytes xs ys (λ k. f (suc k)) i

both_bytes : (xs ys : List ℕ) → AreBytes xs → AreBytes ys → AreBytes (xs ++ ys)
both_bytes [] ys f g i = g i
both_bytes (x ∷ xs) ys f g naught = f 0
both_bytes (x ∷ xs) ys f g (suc i) = both_bytes xs ys (λ k. f (suc k)) g i

zero_bytes : (n : ℕ) → AreBytes (replicate n 0)
zero_bytes naught naught = omega arith
zero_bytes naught (suc i) = omega arith
zero_bytes (suc n) naught = omega arith
zero_bytes (suc n) (suc i) = zero_bytes n i

body_bytes : (e : Record) → AreBytes (record_bytes e) → AreBytes e.body
unfolding record_bytes
body_bytes e f = back_bytes (head_bytes (8 + length e.body) e.plen e.offset) e.body f

-- the bodies of records of bytes
bodies_bytes : (es : List Record) → AreBytes (records_bytes es) → AllByRecursion (λ e. AreBytes e.body) es
bodies_bytes [] f = tt
bodies_bytes (e ∷ es) f = (body_bytes e (front_bytes (record_bytes e) (records_bytes es) f), bodies_bytes es (back_bytes (record_bytes e) (records_bytes es) f))

-- the records of a capture of bytes are of bytes
pub capture_bytes : (preamble : List ℕ) (es : List Record) → AreBytes (preamble ++ records_bytes es) → AreBytes (records_bytes es)
capture_bytes preamble es f = back_bytes preamble (records_bytes es) f

two_bytes : (n : ℕ) → AreBytes (to_be_bytes w16 n)
two_bytes n naught = omega arith
two_bytes n (suc naught) = omega arith
two_bytes n (suc (suc naught)) = omega arith
two_bytes n (suc (suc (suc i))) = omega arith

four_bytes : (n : ℕ) → AreBytes (to_be_bytes w32 n)
four_bytes n naught = omega arith
four_bytes n (suc naught) = omega arith
four_bytes n (suc (suc naught)) = omega arith
four_bytes n (suc (suc (suc naught))) = omega arith
four_bytes n (suc (suc (suc (suc naught)))) = omega arith
four_bytes n (suc (suc (suc (suc (suc i))))) = omega arith

pub frame_are_bytes : (offset : ℕ) (packet : List ℕ) (len : ℕ) → AreBytes packet → AreBytes (frame_bytes offset packet len)
unfolding frame_bytes
frame_are_bytes offset packet len are =
    both_bytes (to_be_bytes w16 (length packet)) (to_be_bytes w32 offset ++ (packet ++ replicate (len - (6 + length packet)) 0)) (two_bytes (length packet))
    (both_bytes (to_be_bytes w32 offset) (packet ++ replicate (len - (6 + length packet)) 0) (four_bytes offset)
    (both_bytes packet (replicate (len - (6 + length packet)) 0) are (zero_bytes (len - (6 + length packet)))))

-- ---- the RTP records

kind_by : (a b c : Bool) (x : Kind) → cond a Rtcp (cond b Cut (cond c Strange x)) ≡ Rtp → (a ≡ false) × (b ≡ false) × (c ≡ false)
kind_by true b c x h = absurd (cc)
kind_by false true c x h = absurd (cc)
kind_by false false true x h = absurd (cc)
kind_by false false false x h = (refl, refl, refl)

is_kind-rtp : (x : Kind) → is_kind Rtp x ≡ true → x ≡ Rtp
is_kind-rtp Rtcp is = absurd (cc)
is_kind-rtp Cut is = absurd (cc)
is_kind-rtp Strange is = absurd (cc)
is_kind-rtp Rtp is = refl

-- they are whole, and not empty
kind-whole : (e : Record) → kind e ≡ Rtp → (e.plen ≡ length e.body) × (1 ≤ length e.body)
unfolding kind
kind-whole e is =
    let all = kind_by (nat_eq e.plen 0) (nat_lt (length e.body) e.plen) (nat_lt e.plen (length e.body)) (kind_read (packet_reading e.body)) is in
    let some : e.plen ≢ 0 = eqb-false e.plen 0 all.0 in
    let long : e.plen ≤ length e.body = ltb-false (length e.body) e.plen all.1 in
    let short : length e.body ≤ e.plen = ltb-false e.plen (length e.body) all.2 in
    let same : e.plen ≡ length e.body = omega arith in (
      same,
      elim (cases_lt 0 (length e.body)) [
        | inl there ↦ omega arith
        | inr none ↦ absurd (some (omega arith))
      ],
    )

filter_by : (P Q : Record → Type 0) (e : Record) (es : List Record) (b : Bool) → has_kind Rtp e ≡ b → (has_kind Rtp e ≡ true → Q e) → AllByRecursion Q (rtp_part es) → AllByRecursion Q (cond b (e ∷ rtp_part es) (rtp_part es))
filter_by P Q e es true k h rest = (h k, rest)
filter_by P Q e es false k h rest = rest

rtp_all : (P Q : Record → Type 0) (es : List Record) → ((e : Record) → P e → has_kind Rtp e ≡ true → Q e) → AllByRecursion P es → AllByRecursion Q (rtp_part es)
rtp_all P Q [] h all = tt
rtp_all P Q (e ∷ es) h all = filter_by P Q e es (has_kind Rtp e) refl (h e all.0) (rtp_all P Q es h all.1)

pub all_at : (P : Record → Type 0) (es : List Record) (i : ℕ) → AllByRecursion P es → i < length es → P (get_or es i empty_record)
all_at P [] i h lt = absurd (omega arith)
all_at P (e ∷ es) naught h lt = h.0
all_at P (e ∷ es) (suc i) h lt = all_at P es i h.1 (omega arith)

all_both : (P Q : Record → Type 0) (es : List Record) → AllByRecursion P es → AllByRecursion Q es → AllByRecursion (λ e. P e × Q e) es
all_both P Q [] p q = tt
all_both P Q (e ∷ es) p q = ((p.0, q.0), all_both P Q es p.1 q.1)

-- a whole RTP record, of bytes
pub record IsWhole (e : Record) : Type 0 where
  pub plen : e.plen ≡ length e.body
  pub some : 1 ≤ length e.body
  pub fits : length e.body < 2 ^ 16
  pub offset : e.offset < 2 ^ 32
  pub bytes : AreBytes e.body

-- those of a capture are whole
pub rtp-whole : (es : List Record) → AllByRecursion IsRecord es → AreBytes (records_bytes es) → AllByRecursion IsWhole (rtp_part es)
rtp-whole es are bytes =
    rtp_all (λ e. IsRecord e × AreBytes e.body) IsWhole es (λ e both k.
    let whole = kind-whole e (is_kind-rtp (kind e) k) in
    let long : length e.body ≤ 65527 = both.0.body in
    record { plen = whole.0; some = whole.1; fits = omega arith; offset = both.0.offset; bytes = both.1 })
    (all_both IsRecord (λ e. AreBytes e.body) es are (bodies_bytes es bytes))

-- ---- what a block writes

replicate-behind : (m n x : ℕ) → drop m (replicate (m + n) x) ≡ replicate n x
replicate-behind m n x = drop-replicate m (m + n) x ∙ ap (λ j. replicate j x) (let e : m + n - m ≡ n = omega arith in e)

pub cut-zeros : (k m : ℕ) → cut k m (replicate (k * m) 0) ≡ zero_block k m
cut-zeros naught m = refl
cut-zeros (suc k) m =
    ap (λ j. cut (suc k) m (replicate {A = ℕ} j 0)) (let e : suc k * m ≡ m + k * m = omega arith in e)
    ∙ ap₂ (λ x xs. x ∷ xs) (take-replicate m (m + k * m) 0 (omega arith)) (ap (cut k m) (replicate-behind m (k * m) 0) ∙ cut-zeros k m)

module _ (p : Protection) where
  -- the block of a record is read as its frame
  frame-reading : (e : Record) → IsWhole e → 6 + length e.body ≤ p.code.k * p.m → block_reading (concat (cut p.code.k p.m (frame_in p e))) ≡ framed e.offset e.body
  frame-reading e is room =
      let size = p.code.k * p.m in
      ap block_reading (concat-cut p.code.k p.m (frame_in p e) (length-frame_bytes e.offset e.body (p.code.k * p.m) room))
      ∙ block_reading-is (frame_in p e) (framed e.offset e.body) (frame_are_bytes e.offset e.body (p.code.k * p.m) is.bytes)
      (frame-there e.offset e.body (p.code.k * p.m) is.offset is.some is.fits room)

  -- it writes the record
  pub frame-text : (e : Record) → IsWhole e → 6 + length e.body ≤ p.code.k * p.m → block_text (cut p.code.k p.m (frame_in p e)) ≡ record_bytes e
  frame-text e is room =
      ap frame_text (frame-reading e is room) ∙ ap (λ n. record_bytes (record { plen = n; offset = e.offset; body = e.body })) (sym is.plen)

  zeros-reading : block_reading (concat (zero_block p.code.k p.m)) ≡ blank
  zeros-reading =
      let n = p.code.k * p.m in
      ap (λ b. block_reading (concat b)) (sym (cut-zeros p.code.k p.m))
      ∙ ap block_reading (concat-cut p.code.k p.m (replicate (p.code.k * p.m) 0) (length-replicate (p.code.k * p.m) 0))
      ∙ block_reading-is (replicate n 0) blank (zero_bytes n) (blank-replicate (replicate n 0) n refl)

  -- and a zero block nothing
  pub zeros-text : block_text (zero_block p.code.k p.m) ≡ []
  zeros-text = ap frame_text zeros-reading

  -- neither is bad
  pub frame-good : (e : Record) → IsWhole e → 6 + length e.body ≤ p.code.k * p.m → is_bad_block (cut p.code.k p.m (frame_in p e)) ≡ false
  frame-good e is room = ap is_bad (frame-reading e is room)

  pub zeros-good : is_bad_block (zero_block p.code.k p.m) ≡ false
  zeros-good = ap is_bad zeros-reading
