-- Protected captures: slots depend on the records before them alone, and what is due grows with what was read.
use Rattle.std.proofs.Common.{◌≡◌, ℕ, zero, suc, ◌+◌, ◌-◌, ◌*◌, ◌<◌, ◌≤◌, Bool, true, false, cond, min, nat_le, nat_lt, Option, Some, None, List, [], ◌∷◌, ◌++◌, length, take, map, replicate, get_or, Err, refl, sym, ap, ◌∙◌, subst, arith, append-nil, append_assoc, length-append, take_at}
use Rattle.std.specs.List.{flat_map, concat, range_with_len}
use Rattle.std.proofs.lemmas.Grind.{flat_map-append}
use Rattle.std.proofs.lemmas.List.{take-append-le, get_or_append_left, get_or_at, get_or-map, map-append, length-map}
use Rattle.std.proofs.lemmas.List.Elements.{filter-append}
use Rattle.sc_outside.specs.Ends.{IsPrefix, IsJob}
use Rattle.sc_outside.proofs.EndsLaws.{IsPrefix-refl, IsPrefix-nil, IsJob-at_once}
use Rattle.sc_rtpdump.specs.declared.kind.Kind.TheVariants.{Rtp}
use Rattle.sc_rtpdump.specs.Record.{Record, empty_record, short_head, short_length, cut_body, Front, ends, breaks, starts, front_of}
use Rattle.sc_rtpdump.specs.Preamble.{IsPreamble, preamble_len}
use Rattle.sc_rtpdump.specs.Capture.{Parts, parts_of, Reading, reads, no_preamble, reading_of}
use Rattle.sc_rtpdump.proofs.CaptureLaws.{reading_of-preamble, reading_of-none}
use Rattle.sc_rtpdump.proofs.GrowLaws.{parts_of-grows, begins_with}
use Rattle.sc_field.specs.Gf256.{gf256_product}
use Rattle.sc_matrix.specs.Layout.{cut}
use Rattle.sc_code.specs.declared.code.CodeFile.{CodeFile}
use Rattle.sc_code.specs.Parity.{parity}
use Rattle.sc_code.proofs.StreamLaws.{parity-append}
use Rattle.sc_slots.specs.declared.protect.ProtectFault.{ProtectFault}
use Rattle.sc_slots.specs.declared.protect.ProtectFault.TheVariants.{TooWide, Dump, TooManyRecords, TooLong, TooManySlots, Write, Memory}
use Rattle.sc_slots.specs.Frame.{frame_bytes}
use Rattle.sc_slots.specs.Slot.{Slot, slot_bytes}
use Rattle.sc_slots.specs.Protected.{Protection, protection_of, has_kind, rtp_part, blocks, stream, source_of, timestamp_of, slot_at, slot_text, slots_text, source_text, all_text, refusal, refusal_at, at_index, or_else, first_below, first_refused, due_behind, due_by, due_of, before_refused, accepted, text_so_far, protecting_by, protecting_within, protecting, IsOfInput}
use Rattle.sc_slots.specs.ProtectSteps.{source_stream, more_text, flush_text}

-- ---- the RTP records
pub rtp_part-append : (es fs : List Record) → rtp_part (es ++ fs) ≡ rtp_part es ++ rtp_part fs
rtp_part-append es fs = filter-append (has_kind Rtp) es fs

pub rtp_part-yes : (es : List Record) (e : Record) → has_kind Rtp e ≡ true → rtp_part (es ++ e ∷ []) ≡ rtp_part es ++ e ∷ []
rtp_part-yes es e h = rtp_part-append es (e ∷ []) ∙ ap (λ b. rtp_part es ++ cond b (e ∷ []) []) h

pub rtp_part-no : (es : List Record) (e : Record) → has_kind Rtp e ≡ false → rtp_part (es ++ e ∷ []) ≡ rtp_part es
rtp_part-no es e h = rtp_part-append es (e ∷ []) ∙ ap (λ b. rtp_part es ++ cond b (e ∷ []) []) h ∙ append-nil (rtp_part es)

-- ---- a slot depends on no later record

-- the frame of a record
abbrev pub frame_in : Protection → Record → List ℕ
frame_in p e = frame_bytes e.offset e.body (p.code.k * p.m)

abbrev pub zero_blocks : Protection → List (List ℕ)
zero_blocks p = replicate p.deadline (replicate (p.code.k * p.m) 0)

source_of-within : (rtp : List Record) (t : ℕ) → t < length rtp → source_of rtp t ≡ get_or rtp t empty_record
source_of-within rtp t h = let e : min t (length rtp - 1) ≡ t = omega arith in ap (λ i. get_or rtp i empty_record) e

pub source_of-front : (rtp more : List Record) (t : ℕ) → t < length rtp → source_of (rtp ++ more) t ≡ source_of rtp t
source_of-front rtp more t h =
    source_of-within (rtp ++ more) t (omega (arith, length-append rtp more)) ∙ get_or_append_left rtp more empty_record t h ∙ sym (source_of-within rtp t h)

-- the blocks of some records, whatever stands behind them
pub block-front : (p : Protection) (rtp : List Record) (more : List (List ℕ)) (t : ℕ) → t < length rtp
    → get_or (map (frame_in p) rtp ++ more) t [] ≡ frame_in p (get_or rtp t empty_record)
block-front p rtp more t h =
    get_or_append_left (map (frame_in p) rtp) more [] t (omega (arith, length-map rtp (frame_in p)))
    ∙ get_or-map (frame_in p) rtp t empty_record [] h

map-map : {A B C : Type 0} (f : B → C) (g : A → B) (xs : List A) → map f (map g xs) ≡ map (λ x. f (g x)) xs
map-map f g [] = refl
map-map f g (x ∷ xs) = ap (λ l. f (g x) ∷ l) (map-map f g xs)

pub length-source_stream : (p : Protection) (rtp : List Record) → length (source_stream p rtp) ≡ length rtp
length-source_stream p rtp = length-map rtp (λ e. cut p.code.k p.m (frame_in p e))

-- and their parities
pub stream-parts : (p : Protection) (rtp : List Record) (more : List (List ℕ)) → map (cut p.code.k p.m) (map (frame_in p) rtp ++ more) ≡ source_stream p rtp ++ map (cut p.code.k p.m) more
stream-parts p rtp more =
    map-append (cut p.code.k p.m) (map (frame_in p) rtp) more
    ∙ ap (λ l. l ++ map (cut p.code.k p.m) more) (map-map (cut p.code.k p.m) (frame_in p) rtp)

pub parity-front : (p : Protection) (rtp : List Record) (more : List (List ℕ)) (t : ℕ) → t < length rtp
    → parity 0 gf256_product p.code p.m (map (cut p.code.k p.m) (map (frame_in p) rtp ++ more)) t ≡ parity 0 gf256_product p.code p.m (source_stream p rtp) t
parity-front p rtp more t h =
    ap (λ (xs : List (List (List ℕ))). parity 0 gf256_product p.code p.m xs t) (stream-parts p rtp more)
    ∙ parity-append 0 gf256_product p.code p.m (source_stream p rtp) (map (cut p.code.k p.m) more) t (omega (arith, length-source_stream p rtp))

blocks-append : (p : Protection) (rtp more : List Record) → blocks p (rtp ++ more) ≡ map (frame_in p) rtp ++ (map (frame_in p) more ++ zero_blocks p)
blocks-append p rtp more =
    ap (λ l. l ++ zero_blocks p) (map-append (frame_in p) rtp more) ∙ append_assoc (map (frame_in p) rtp) (map (frame_in p) more) (zero_blocks p)

pub same_slot : (number end end' m time time' : ℕ) (block block' par par' : List ℕ) → end ≡ end' → time ≡ time' → block ≡ block' → par ≡ par'
    → (let s : Slot = record { number = number; end = end; m = m; timestamp = time; block = block; parity = par } in s)
    ≡ record { number = number; end = end'; m = m; timestamp = time'; block = block'; parity = par' }
same_slot number end end' m time time' block block' par par' a b c d =
    ap (λ n. record { number = number; end = n; m = m; timestamp = time; block = block; parity = par }) a
    ∙ ap (λ n. record { number = number; end = end'; m = m; timestamp = n; block = block; parity = par }) b
    ∙ ap (λ l. record { number = number; end = end'; m = m; timestamp = time'; block = l; parity = par }) c
    ∙ ap (λ l. record { number = number; end = end'; m = m; timestamp = time'; block = block'; parity = l }) d

-- what a source slot is, by the records up to its own
pub record IsSource (p : Protection) (rtp : List Record) (t : ℕ) : Type 0 where
  pub end : t + 1 - length rtp ≡ 0
  pub block : get_or (blocks p rtp) t [] ≡ frame_in p (get_or rtp t empty_record)
  pub par : parity 0 gf256_product p.code p.m (stream p rtp) t ≡ parity 0 gf256_product p.code p.m (source_stream p rtp) t

pub source_there : (p : Protection) (rtp : List Record) (t : ℕ) → t < length rtp → IsSource p rtp t
source_there p rtp t h = record {
  end = omega arith;
  block = block-front p rtp (zero_blocks p) t h;
  par = parity-front p rtp (zero_blocks p) t h;
}

pub slot_text-front : (p : Protection) (rtp more : List Record) (t : ℕ) → t < length rtp → slot_text p (rtp ++ more) t ≡ slot_text p rtp t
unfolding slot_text
slot_text-front p rtp more t h =
    let here = source_there p rtp t h in
    let all = map (frame_in p) more ++ zero_blocks p in
    let source = source_of-front rtp more t h in
    let end : t + 1 - length (rtp ++ more) ≡ t + 1 - length rtp = omega (arith, length-append rtp more) in
    let block : get_or (blocks p (rtp ++ more)) t [] ≡ get_or (blocks p rtp) t [] =
    ap (λ (bs : List (List ℕ)). get_or bs t []) (blocks-append p rtp more) ∙ block-front p rtp all t h ∙ sym here.block in
    let par : parity 0 gf256_product p.code p.m (stream p (rtp ++ more)) t ≡ parity 0 gf256_product p.code p.m (stream p rtp) t =
    ap (λ (bs : List (List ℕ)). parity 0 gf256_product p.code p.m (map (cut p.code.k p.m) bs) t) (blocks-append p rtp more) ∙ parity-front p rtp all t h ∙ sym here.par in
    ap (λ (e : Record). slot_bytes p.code.k p.code.r e.offset (slot_at p (rtp ++ more) t)) source
    ∙ ap (slot_bytes p.code.k p.code.r (source_of rtp t).offset)
    (same_slot t (t + 1 - length (rtp ++ more)) (t + 1 - length rtp) p.m (timestamp_of (source_of (rtp ++ more) t).body) (timestamp_of (source_of rtp t).body)
    (get_or (blocks p (rtp ++ more)) t []) (get_or (blocks p rtp) t [])
    (concat (parity 0 gf256_product p.code p.m (stream p (rtp ++ more)) t)) (concat (parity 0 gf256_product p.code p.m (stream p rtp) t))
    end (ap (λ (e : Record). timestamp_of e.body) source) block (ap concat par))

-- ---- many slots
range-split : (a n m : ℕ) → range_with_len a (n + m) ≡ range_with_len a n ++ range_with_len (a + n) m
range-split a zero m = let e : a ≡ a + 0 = omega arith in let f : 0 + m ≡ m = omega arith in ap (range_with_len a) f ∙ ap (λ k. range_with_len k m) e
range-split a (suc n) m =
    let e : suc n + m ≡ suc (n + m) = omega arith in
    let f : a + 1 + n ≡ a + suc n = omega arith in
    ap (range_with_len a) e ∙ ap (λ l. a ∷ l) (range-split (a + 1) n m ∙ ap (λ k. range_with_len (a + 1) n ++ range_with_len k m) f)

pub slots-split : (p : Protection) (rtp : List Record) (t n m : ℕ) → slots_text p rtp t (n + m) ≡ slots_text p rtp t n ++ slots_text p rtp (t + n) m
slots-split p rtp t n m = ap (flat_map (slot_text p rtp)) (range-split t n m) ∙ flat_map-append (slot_text p rtp) (range_with_len t n) (range_with_len (t + n) m)

pub slots-one : (p : Protection) (rtp : List Record) (t : ℕ) → slots_text p rtp t 1 ≡ slot_text p rtp t
slots-one p rtp t = append-nil (slot_text p rtp t)

slots-front : (p : Protection) (rtp more : List Record) (t n : ℕ) → t + n ≤ length rtp → slots_text p (rtp ++ more) t n ≡ slots_text p rtp t n
slots-front p rtp more t zero h = refl
slots-front p rtp more t (suc n) h =
    ap (λ l. l ++ slots_text p (rtp ++ more) (t + 1) n) (slot_text-front p rtp more t (omega arith))
    ∙ ap (λ l. slot_text p rtp t ++ l) (slots-front p rtp more (t + 1) n (omega arith))

-- the source slots of some records come first, however many slots there are
slots-more : (p : Protection) (rtp more : List Record) (n : ℕ) → slots_text p (rtp ++ more) 0 (length rtp + n) ≡ slots_text p rtp 0 (length rtp) ++ slots_text p (rtp ++ more) (length rtp) n
slots-more p rtp more n =
    let zero_first : 0 + length rtp ≡ length rtp = omega arith in
    slots-split p (rtp ++ more) 0 (length rtp) n
    ∙ ap (λ l. l ++ slots_text p (rtp ++ more) (0 + length rtp) n) (slots-front p rtp more 0 (length rtp) (omega arith))
    ∙ ap (λ k. slots_text p rtp 0 (length rtp) ++ slots_text p (rtp ++ more) k n) zero_first

pub source_text-append : (p : Protection) (es fs : List Record)
    → source_text p (es ++ fs) ≡ source_text p es ++ slots_text p (rtp_part es ++ rtp_part fs) (length (rtp_part es)) (length (rtp_part fs))
source_text-append p es fs =
    ap (λ (rtp : List Record). slots_text p rtp 0 (length rtp)) (rtp_part-append es fs)
    ∙ ap (slots_text p (rtp_part es ++ rtp_part fs) 0) (length-append (rtp_part es) (rtp_part fs))
    ∙ slots-more p (rtp_part es) (rtp_part fs) (length (rtp_part fs))

pub all_text-append : (p : Protection) (es fs : List Record)
    → all_text p (es ++ fs) ≡ source_text p es ++ slots_text p (rtp_part es ++ rtp_part fs) (length (rtp_part es)) (length (rtp_part fs) + p.deadline)
all_text-append p es fs =
    let sum : length (rtp_part es ++ rtp_part fs) + p.deadline ≡ length (rtp_part es) + (length (rtp_part fs) + p.deadline) = omega (arith, length-append (rtp_part es) (rtp_part fs)) in
    ap (λ (rtp : List Record). slots_text p rtp 0 (length rtp + p.deadline)) (rtp_part-append es fs)
    ∙ ap (slots_text p (rtp_part es ++ rtp_part fs) 0) sum
    ∙ slots-more p (rtp_part es) (rtp_part fs) (length (rtp_part fs) + p.deadline)

-- with the slots that flush
pub all_text-parts : (p : Protection) (es : List Record) → all_text p es ≡ source_text p es ++ flush_text p es p.deadline
all_text-parts p es =
    let zero_first : 0 + length (rtp_part es) ≡ length (rtp_part es) = omega arith in
    slots-split p (rtp_part es) 0 (length (rtp_part es)) p.deadline
    ∙ ap (λ k. source_text p es ++ slots_text p (rtp_part es) k p.deadline) zero_first

-- one record more
more_by : (p : Protection) (es : List Record) (e : Record) (b : Bool) → has_kind Rtp e ≡ b → source_text p (es ++ e ∷ []) ≡ source_text p es ++ cond b (slot_text p (rtp_part es ++ e ∷ []) (length (rtp_part es))) []
more_by p es e true h =
    source_text-append p es (e ∷ [])
    ∙ ap (λ b. source_text p es ++ slots_text p (rtp_part es ++ cond b (e ∷ []) []) (length (rtp_part es)) (length (cond b (e ∷ []) []))) h
    ∙ ap (λ l. source_text p es ++ l) (slots-one p (rtp_part es ++ e ∷ []) (length (rtp_part es)))
more_by p es e false h =
    ap (λ (rtp : List Record). slots_text p rtp 0 (length rtp)) (rtp_part-no es e h) ∙ sym (append-nil (source_text p es))

pub source_text-more : (p : Protection) (es : List Record) (e : Record) → source_text p (es ++ e ∷ []) ≡ source_text p es ++ more_text p es e
source_text-more p es e = more_by p es e (has_kind Rtp e) refl

-- ---- what is refused
refusal_at-front : (p : Protection) (es more : List Record) (i : ℕ) → i < length es → refusal_at p (es ++ more) i ≡ refusal_at p es i
refusal_at-front p es more i h =
    ap (λ (l : List Record). refusal p i (length (rtp_part l)) (get_or (es ++ more) i empty_record)) (take-append-le i es more (omega arith))
    ∙ ap (refusal p i (length (rtp_part (take i es)))) (get_or_append_left es more empty_record i h)

refusal_at-next : (p : Protection) (es more : List Record) (e : Record) → refusal_at p (es ++ e ∷ more) (length es) ≡ refusal p (length es) (length (rtp_part es)) e
refusal_at-next p es more e =
    ap (λ (l : List Record). refusal p (length es) (length (rtp_part l)) (get_or (es ++ e ∷ more) (length es) empty_record)) (take_at es (e ∷ more) (length es) refl)
    ∙ ap (refusal p (length es) (length (rtp_part es))) (get_or_at es e more empty_record (length es) refl)

first_below-front : (p : Protection) (es more : List Record) (n : ℕ) → n ≤ length es → first_below p (es ++ more) n ≡ first_below p es n
first_below-front p es more zero h = refl
first_below-front p es more (suc n) h =
    ap (λ (o : Option (ℕ × ProtectFault)). or_else o (at_index n (refusal_at p (es ++ more) n))) (first_below-front p es more n (omega arith))
    ∙ ap (λ (o : Option ProtectFault). or_else (first_below p es n) (at_index n o)) (refusal_at-front p es more n (omega arith))

first_below-later : (p : Protection) (es : List Record) (n m k : ℕ) (x : ℕ × ProtectFault) → n + m ≡ k → first_below p es n ≡ Some x → first_below p es k ≡ Some x
first_below-later p es n zero k x e h = let same : n ≡ k = omega arith in subst (λ j. first_below p es j ≡ Some x) same h
first_below-later p es n (suc m) k x e h =
    let same : suc (n + m) ≡ k = omega arith in
    subst (λ j. first_below p es j ≡ Some x) same
    (ap (λ (o : Option (ℕ × ProtectFault)). or_else o (at_index (n + m) (refusal_at p es (n + m)))) (first_below-later p es n m (n + m) x refl h))

within_by : (n : ℕ) (o : Option (ℕ × ProtectFault)) (r : Option ProtectFault) (x : ℕ × ProtectFault) → (o ≡ Some x → x.0 < n) → or_else o (at_index n r) ≡ Some x → x.0 < suc n
within_by n (Some y) r x h e = let l = h e in omega arith
within_by n None (Some f) x h e = let same : (n, f) ≡ x = cc in let first : n ≡ x.0 = ap (λ (y : ℕ × ProtectFault). y.0) same in omega arith
within_by n None None x h e = absurd (cc)

first_below-within : (p : Protection) (es : List Record) (n : ℕ) (x : ℕ × ProtectFault) → first_below p es n ≡ Some x → x.0 < n
first_below-within p es zero x e = absurd (cc)
first_below-within p es (suc n) x e = within_by n (first_below p es n) (refusal_at p es n) x (first_below-within p es n x) e

behind_by : (n m : ℕ) (o : Option (ℕ × ProtectFault)) (r : Option ProtectFault) (x : ℕ × ProtectFault) → n ≤ m → (o ≡ Some x → n ≤ x.0) → or_else o (at_index m r) ≡ Some x → n ≤ x.0
behind_by n m (Some y) r x l h e = h e
behind_by n m None (Some f) x l h e = let same : (m, f) ≡ x = cc in let first : m ≡ x.0 = ap (λ (y : ℕ × ProtectFault). y.0) same in omega arith
behind_by n m None None x l h e = absurd (cc)

first_below-behind : (p : Protection) (es : List Record) (n m k : ℕ) (x : ℕ × ProtectFault) → n + m ≡ k → first_below p es n ≡ None → first_below p es k ≡ Some x → n ≤ x.0
first_below-behind p es n zero k x e none some = let same : n ≡ k = omega arith in let no : None ≡ Some x = sym none ∙ ap (first_below p es) same ∙ some in absurd (cc)
first_below-behind p es n (suc m) k x e none some =
    let same : k ≡ suc (n + m) = omega arith in
    behind_by n (n + m) (first_below p es (n + m)) (refusal_at p es (n + m)) x (omega arith) (first_below-behind p es n m (n + m) x refl none) (ap (first_below p es) (sym same) ∙ some)

-- one record more, which isn't refused
pub first_refused-none : (p : Protection) (es : List Record) (e : Record) → first_refused p es ≡ None → refusal p (length es) (length (rtp_part es)) e ≡ None → first_refused p (es ++ e ∷ []) ≡ None
first_refused-none p es e none ok =
    let size : length (es ++ e ∷ []) ≡ suc (length es) = omega (arith, length-append es (e ∷ [])) in
    ap (first_below p (es ++ e ∷ [])) size
    ∙ ap (λ (o : Option (ℕ × ProtectFault)). or_else o (at_index (length es) (refusal_at p (es ++ e ∷ []) (length es)))) (first_below-front p es (e ∷ []) (length es) (omega arith) ∙ none)
    ∙ ap (at_index (length es)) (refusal_at-next p es [] e ∙ ok)

-- or which is, whatever follows it
pub first_refused-next : (p : Protection) (es more : List Record) (e : Record) (fault : ProtectFault) → first_refused p es ≡ None → refusal p (length es) (length (rtp_part es)) e ≡ Some fault
    → first_refused p ((es ++ e ∷ []) ++ more) ≡ Some (length es, fault)
first_refused-next p es more e fault none why =
    let size : suc (length es) + length more ≡ length (es ++ e ∷ more) = omega (arith, length-append es (e ∷ more)) in
    ap (first_refused p) (append_assoc es (e ∷ []) more)
    ∙ first_below-later p (es ++ e ∷ more) (suc (length es)) (length more) (length (es ++ e ∷ more)) (length es, fault) size
    (ap (λ (o : Option (ℕ × ProtectFault)). or_else o (at_index (length es) (refusal_at p (es ++ e ∷ more) (length es)))) (first_below-front p es (e ∷ more) (length es) (omega arith) ∙ none)
    ∙ ap (at_index (length es)) (refusal_at-next p es more e ∙ why))

-- what is refused of records is refused of more
first_refused-grows : (p : Protection) (es more : List Record) (x : ℕ × ProtectFault) → first_refused p es ≡ Some x → first_refused p (es ++ more) ≡ Some x
first_refused-grows p es more x some =
    first_below-later p (es ++ more) (length es) (length more) (length (es ++ more)) x (sym (length-append es more)) (first_below-front p es more (length es) (omega arith) ∙ some)

-- ---- what is due grows

-- the source slots of records are at the front of what is due with more
front_by : (p : Protection) (pre : List ℕ) (es more : List Record) (tail : Front) → IsPrefix (pre ++ source_text p es) (due_behind p pre (es ++ more) tail).text
front_by p pre es more (breaks break) = record {
  rest = slots_text p (rtp_part es ++ rtp_part more) (length (rtp_part es)) (length (rtp_part more));
  parts = ap (λ l. pre ++ l) (source_text-append p es more) ∙ sym (append_assoc pre (source_text p es) _);
}
front_by p pre es more ends = record {
  rest = slots_text p (rtp_part es ++ rtp_part more) (length (rtp_part es)) (length (rtp_part more) + p.deadline);
  parts = ap (λ l. pre ++ l) (all_text-append p es more) ∙ sym (append_assoc pre (source_text p es) _);
}
front_by p pre es more (starts e rest) = record {
  rest = slots_text p (rtp_part es ++ rtp_part more) (length (rtp_part es)) (length (rtp_part more) + p.deadline);
  parts = ap (λ l. pre ++ l) (all_text-append p es more) ∙ sym (append_assoc pre (source_text p es) _);
}

-- the source slots of the records before a refused one
front_refused : (p : Protection) (pre : List ℕ) (es more : List Record) (n : ℕ) → length es ≤ n → IsPrefix (pre ++ source_text p es) (pre ++ source_text p (take n (es ++ more)))
front_refused p pre es more n h =
    let part = take (n - length es) more in
    let is : take n (es ++ more) ≡ es ++ part = take-past n es more h in
    record {
      rest = slots_text p (rtp_part es ++ rtp_part part) (length (rtp_part es)) (length (rtp_part part));
      parts = ap (λ l. pre ++ source_text p l) is ∙ ap (λ l. pre ++ l) (source_text-append p es part) ∙ sym (append_assoc pre (source_text p es) _);
    }
  where
    take-past : (n : ℕ) (es more : List Record) → length es ≤ n → take n (es ++ more) ≡ es ++ take (n - length es) more
    take-past n [] more h = let e : n ≡ n - 0 = omega arith in ap (λ k. take k more) e
    take-past zero (e ∷ es) more h = absurd (omega arith)
    take-past (suc n) (e ∷ es) more h = let k : n - length es ≡ suc n - suc (length es) = omega arith in ap (λ l. e ∷ l) (take-past n es more (omega arith)) ∙ ap (λ j. e ∷ (es ++ take j more)) k

none_grows : (p : Protection) (pre : List ℕ) (es more : List Record) (tail : List ℕ) (o : Option (ℕ × ProtectFault)) → first_refused p es ≡ None → first_refused p (es ++ more) ≡ o
    → IsPrefix (pre ++ source_text p es) (due_by p pre (record { records = es ++ more; tail = tail }) o).text
none_grows p pre es more tail None none is = front_by p pre es more (front_of tail)
none_grows p pre es more tail (Some x) none is =
    front_refused p pre es more x.0
    (first_below-behind p (es ++ more) (length es) (length more) (length (es ++ more)) x (sym (length-append es more)) (first_below-front p es more (length es) (omega arith) ∙ none) is)

-- or the source slots of more
accepted_by : (p : Protection) (pre : List ℕ) (es more : List Record) (o : Option (ℕ × ProtectFault)) → first_refused p es ≡ None → first_refused p (es ++ more) ≡ o
    → IsPrefix (pre ++ source_text p es) (pre ++ source_text p (before_refused (es ++ more) o))
accepted_by p pre es more None none is = record {
  rest = slots_text p (rtp_part es ++ rtp_part more) (length (rtp_part es)) (length (rtp_part more));
  parts = ap (λ l. pre ++ l) (source_text-append p es more) ∙ sym (append_assoc pre (source_text p es) _);
}
accepted_by p pre es more (Some x) none is =
    front_refused p pre es more x.0
    (first_below-behind p (es ++ more) (length es) (length more) (length (es ++ more)) x (sym (length-append es more)) (first_below-front p es more (length es) (omega arith) ∙ none) is)

pub accepted_front : (p : Protection) (pre : List ℕ) (es more : List Record) → first_refused p es ≡ None → IsPrefix (pre ++ source_text p es) (pre ++ source_text p (accepted p (es ++ more)))
accepted_front p pre es more none = accepted_by p pre es more (first_refused p (es ++ more)) none refl

-- what is due so far of records is a prefix of what is due with more of them, whatever is behind them
records_grow : (p : Protection) (pre : List ℕ) (es more : List Record) (tail : List ℕ) (o : Option (ℕ × ProtectFault)) → first_refused p es ≡ o
    → IsPrefix (pre ++ source_text p (before_refused es o)) (due_by p pre (record { records = es ++ more; tail = tail }) (first_refused p (es ++ more))).text
records_grow p pre es more tail None is = none_grows p pre es more tail (first_refused p (es ++ more)) is refl
records_grow p pre es more tail (Some x) is =
    let within : x.0 < length es = first_below-within p es (length es) x is in
    let same : take x.0 (es ++ more) ≡ take x.0 es = take-append-le x.0 es more (omega arith) in
    subst (λ (o : Option (ℕ × ProtectFault)). IsPrefix (pre ++ source_text p (take x.0 es)) (due_by p pre (record { records = es ++ more; tail = tail }) o).text) (sym (first_refused-grows p es more x is))
    (subst (λ (l : List Record). IsPrefix (pre ++ source_text p (take x.0 es)) (pre ++ source_text p l)) (sym same) (IsPrefix-refl _))

parts_grow : (p : Protection) (pre : List ℕ) (before after : Parts) (more : List Record) → after.records ≡ before.records ++ more
    → IsPrefix (pre ++ source_text p (accepted p before.records)) (due_by p pre after (first_refused p after.records)).text
parts_grow p pre before after more e =
    subst (λ (l : List Record). IsPrefix (pre ++ source_text p (accepted p before.records)) (due_by p pre (record { records = l; tail = after.tail }) (first_refused p l)).text) (sym e)
    (records_grow p pre before.records more after.tail (first_refused p before.records) refl)

text_behind : (p : Protection) (pre xs ys : List ℕ) → IsPreamble pre → IsPrefix (text_so_far p (reading_of (pre ++ xs))) (due_of p (reading_of ((pre ++ xs) ++ ys))).text
text_behind p pre xs ys h =
    let more = parts_of-grows xs ys in
    let before : text_so_far p (reading_of (pre ++ xs)) ≡ pre ++ source_text p (accepted p (parts_of xs).records) = ap (text_so_far p) (reading_of-preamble pre xs h) in
    let after : (due_of p (reading_of ((pre ++ xs) ++ ys))).text ≡ (due_by p pre (parts_of (xs ++ ys)) (first_refused p (parts_of (xs ++ ys)).records)).text =
    ap (λ l. (due_of p (reading_of l)).text) (append_assoc pre xs ys) ∙ ap (λ r. (due_of p r).text) (reading_of-preamble pre (xs ++ ys) h) in
    subst (λ l. IsPrefix l (due_of p (reading_of ((pre ++ xs) ++ ys))).text) (sym before)
    (subst (IsPrefix (pre ++ source_text p (accepted p (parts_of xs).records))) (sym after) (parts_grow p pre (parts_of xs) (parts_of (xs ++ ys)) more.0 more.1))

text_grows : (p : Protection) (taken rest : List ℕ) (place : Option ℕ) → preamble_len taken ≡ place
    → IsPrefix (text_so_far p (reading_of taken)) (due_of p (reading_of (taken ++ rest))).text
text_grows p taken rest None e =
    subst (λ r. IsPrefix (text_so_far p r) (due_of p (reading_of (taken ++ rest))).text) (sym (reading_of-none taken e)) (IsPrefix-nil _)
text_grows p taken rest (Some n) e =
    let b = begins_with taken n e in
    subst (λ l. IsPrefix (text_so_far p (reading_of l)) (due_of p (reading_of (l ++ rest))).text) (sym b.parts) (text_behind p b.preamble b.rest rest b.is)

by-IsJob : (p : Protection) → IsJob (protecting_by p)
by-IsJob p = record {
  grows = λ taken rest. text_grows p taken rest (preamble_len taken) refl;
  spares = λ taken rest. IsPrefix-nil _;
}

within-IsJob : (wide : Bool) (p : Protection) → IsJob (protecting_within wide p)
within-IsJob true p = IsJob-at_once _ false [] _ _ _ (IsPrefix-nil _)
within-IsJob false p = by-IsJob p

pub protecting-IsJob : (file : CodeFile) (size : ℕ) → IsJob (protecting file size)
protecting-IsJob file size = within-IsJob _ (protection_of file size)

-- ---- what the input decides is none of the answers of the outside

abbrev pub refusal_by : Bool → Bool → Bool → Bool → ℕ → ℕ → Option ProtectFault
refusal_by a b c d index long = cond a (Some TooManyRecords) (cond b (cond c (Some (TooLong index long)) (cond d (Some TooManySlots) None)) None)

pub refusal-is : (p : Protection) (index before : ℕ) (e : Record)
    → refusal p index before e ≡ refusal_by (nat_le 8000000 index) (has_kind Rtp e) (nat_lt p.size (length e.body)) (nat_le (4000000 - p.deadline) before) index (length e.body)
unfolding refusal
refusal-is p index before e = refl

-- the faults of records
abbrev pub IsRefusal : ProtectFault → Type 0
IsRefusal TooManyRecords = Unit {0}
IsRefusal (TooLong index long) = Unit {0}
IsRefusal TooManySlots = Unit {0}
IsRefusal (TooWide bytes) = ⊥
IsRefusal (Dump fault) = ⊥
IsRefusal Write = ⊥
IsRefusal Memory = ⊥

refusal_of : (fault other : ProtectFault) → IsRefusal other → Some other ≡ Some fault → IsRefusal fault
refusal_of fault other h e = let same : other ≡ fault = cc in subst IsRefusal same h

by_refusal : (a b c d : Bool) (i l : ℕ) (fault : ProtectFault) → refusal_by a b c d i l ≡ Some fault → IsRefusal fault
by_refusal true b c d i l fault h = refusal_of fault TooManyRecords tt h
by_refusal false false c d i l fault h = absurd (cc)
by_refusal false true true d i l fault h = refusal_of fault (TooLong i l) tt h
by_refusal false true false true i l fault h = refusal_of fault TooManySlots tt h
by_refusal false true false false i l fault h = absurd (cc)

pub refusal-IsRefusal : (p : Protection) (index before : ℕ) (e : Record) (fault : ProtectFault) → refusal p index before e ≡ Some fault → IsRefusal fault
refusal-IsRefusal p index before e fault h =
    by_refusal (nat_le 8000000 index) (has_kind Rtp e) (nat_lt p.size (length e.body)) (nat_le (4000000 - p.deadline) before) index (length e.body) fault (sym (refusal-is p index before e) ∙ h)

fault_by : (n : ℕ) (o : Option (ℕ × ProtectFault)) (r : Option ProtectFault) (x : ℕ × ProtectFault) → (o ≡ Some x → IsRefusal x.1) → ((f : ProtectFault) → r ≡ Some f → IsRefusal f) → or_else o (at_index n r) ≡ Some x → IsRefusal x.1
fault_by n (Some y) r x h g e = h e
fault_by n None (Some f) x h g e = let same : (n, f) ≡ x = cc in subst IsRefusal (ap (λ (y : ℕ × ProtectFault). y.1) same) (g f refl)
fault_by n None None x h g e = absurd (cc)

first_below-IsRefusal : (p : Protection) (es : List Record) (n : ℕ) (x : ℕ × ProtectFault) → first_below p es n ≡ Some x → IsRefusal x.1
first_below-IsRefusal p es zero x e = absurd (cc)
first_below-IsRefusal p es (suc n) x e =
    fault_by n (first_below p es n) (refusal_at p es n) x (first_below-IsRefusal p es n x) (λ f h. refusal-IsRefusal p n (length (rtp_part (take n es))) (get_or es n empty_record) f h) e

refusal_decided : (fault : ProtectFault) → IsRefusal fault → IsOfInput (Err fault)
refusal_decided TooManyRecords h = tt
refusal_decided (TooLong i l) h = tt
refusal_decided TooManySlots h = tt
refusal_decided (TooWide bytes) h = tt
refusal_decided (Dump fault) h = absurd h
refusal_decided Write h = absurd h
refusal_decided Memory h = absurd h

behind_decided : (p : Protection) (pre : List ℕ) (es : List Record) (front : Front) → IsOfInput (due_behind p pre es front).answer
behind_decided p pre es (breaks short_head) = tt
behind_decided p pre es (breaks short_length) = tt
behind_decided p pre es (breaks cut_body) = tt
behind_decided p pre es ends = tt
behind_decided p pre es (starts e rest) = tt

by_decided : (p : Protection) (pre : List ℕ) (parts : Parts) (o : Option (ℕ × ProtectFault)) → first_refused p parts.records ≡ o → IsOfInput (due_by p pre parts o).answer
by_decided p pre parts None e = behind_decided p pre parts.records (front_of parts.tail)
by_decided p pre parts (Some x) e = refusal_decided x.1 (first_below-IsRefusal p parts.records (length parts.records) x e)

of_decided : (p : Protection) (reading : Reading) → IsOfInput (due_of p reading).answer
of_decided p no_preamble = tt
of_decided p (reads pre parts) = by_decided p pre parts (first_refused p parts.records) refl

within_decided : (wide : Bool) (p : Protection) (input : List ℕ) → IsOfInput ((protecting_within wide p).whole input).answer
within_decided true p input = tt
within_decided false p input = of_decided p (reading_of input)

pub protecting-decided : (file : CodeFile) (size : ℕ) (input : List ℕ) → IsOfInput ((protecting file size).whole input).answer
protecting-decided file size input = within_decided _ (protection_of file size) input
