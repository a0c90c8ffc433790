-- The steps of protecting: what one record adds to what is kept and what waits.
use Rattle.std.proofs.Common.{◌≡◌, ℕ, ◌+◌, ◌-◌, ◌*◌, ◌<◌, ◌≤◌, Bool, true, false, cond, nat_le, nat_lt, min, Some, None, List, [], ◌∷◌, ◌++◌, length, get_or, count_by, Ok, refl, sym, ap, ◌∙◌, subst, arith, append-nil, length-append}
use Rattle.std.specs.List.{concat}
use Rattle.std.proofs.lemmas.Bool.{le-ltb}
use Rattle.std.proofs.lemmas.Bool.Decides.{nat_tests}
use Rattle.std.proofs.lemmas.List.{get_or_push, map_push}
use Rattle.std.proofs.lemmas.List.Sums.{sum_by_push, length-filter, count_by-le-length}
use Rattle.sc_outside.specs.Port.{Told}
use Rattle.sc_rtpdump.specs.declared.fault.DumpFault.{DumpFault}
use Rattle.sc_rtpdump.specs.declared.kind.Kind.{Kind}
use Rattle.sc_rtpdump.specs.declared.kind.Kind.TheVariants.{Rtcp, Cut, Strange, Rtp}
use Rattle.sc_rtpdump.specs.Kind.{kind}
use Rattle.sc_rtpdump.specs.Record.{Record, IsRecord, empty_record, record_bytes}
use Rattle.sc_rtpdump.specs.Thin.{Carries, StopsBehind}
use Rattle.sc_field.specs.Gf256.{gf256_product}
use Rattle.sc_matrix.specs.Layout.{cut}
use Rattle.sc_code.specs.Code.{Code}
use Rattle.sc_code.specs.Encoder.{Encoder, StandsFor}
use Rattle.sc_code.specs.Parity.{parity}
use Rattle.sc_slots.specs.declared.maker.Label.{Label}
use Rattle.sc_slots.specs.declared.protect.ProtectFault.{ProtectFault}
use Rattle.sc_slots.specs.declared.protect.ProtectFault.TheVariants.{TooWide, Dump, TooManyRecords, TooLong, TooManySlots, Write, Memory}
use Rattle.sc_slots.specs.declared.protect.Taken.{Taken}
use Rattle.sc_slots.specs.Frame.{frame_bytes}
use Rattle.sc_slots.specs.Slot.{slot_bytes}
use Rattle.sc_slots.specs.Protected.{Protection, is_kind, has_kind, rtp_part, blocks, stream, source_of, timestamp_of, slot_text, refusal}
use Rattle.sc_slots.specs.ProtectSteps.{next_text, PutsSlot, last_source, taken_of, source_stream, Knows, IsOf, AreFew, Counts, HaltsAt, HaltsBehind}
use Rattle.sc_slots.proofs.ProtectedLaws.{refusal_by, refusal-is, refusal-IsRefusal, frame_in, rtp_part-yes, rtp_part-no, source_there, same_slot, length-source_stream}

-- ---- which refusal
by_many : (a b c d : Bool) (i l : ℕ) → a ≡ true → refusal_by a b c d i l ≡ Some TooManyRecords
by_many true b c d i l h = refl
by_many false b c d i l h = absurd (cc)

by_other : (a b c d : Bool) (i l : ℕ) → a ≡ false → b ≡ false → refusal_by a b c d i l ≡ None
by_other true b c d i l h g = absurd (cc)
by_other false true c d i l h g = absurd (cc)
by_other false false c d i l h g = refl

by_none : (a b c d : Bool) (i l : ℕ) → a ≡ false → b ≡ true → c ≡ false → d ≡ false → refusal_by a b c d i l ≡ None
by_none true b c d i l h g f e = absurd (cc)
by_none false false c d i l h g f e = absurd (cc)
by_none false true true d i l h g f e = absurd (cc)
by_none false true false true i l h g f e = absurd (cc)
by_none false true false false i l h g f e = refl

refusal-dump : (p : Protection) (index before : ℕ) (e : Record) (fault : DumpFault) → refusal p index before e ≡ Some (Dump fault) → ⊥
refusal-dump p index before e fault h = refusal-IsRefusal p index before e (Dump fault) h

pub refusal-many : (p : Protection) (index before : ℕ) (e : Record) → 8000000 ≤ index → refusal p index before e ≡ Some TooManyRecords
refusal-many p index before e h =
    let many : nat_le 8000000 index ≡ true = grind (arith, nat_tests) in
    refusal-is p index before e ∙ by_many (nat_le 8000000 index) (has_kind Rtp e) (nat_lt p.size (length e.body)) (nat_le (4000000 - p.deadline) before) index (length e.body) many

pub refusal-other : (p : Protection) (index before : ℕ) (e : Record) → index < 8000000 → has_kind Rtp e ≡ false → refusal p index before e ≡ None
refusal-other p index before e h k =
    let few : nat_le 8000000 index ≡ false = grind (arith, nat_tests) in
    refusal-is p index before e ∙ by_other (nat_le 8000000 index) (has_kind Rtp e) (nat_lt p.size (length e.body)) (nat_le (4000000 - p.deadline) before) index (length e.body) few k

pub refusal-none : (p : Protection) (index before : ℕ) (e : Record) → index < 8000000 → has_kind Rtp e ≡ true → length e.body ≤ p.size → before < 4000000 - p.deadline → refusal p index before e ≡ None
refusal-none p index before e h k l n =
    let few : nat_le 8000000 index ≡ false = grind (arith, nat_tests) in
    let room : nat_le (4000000 - p.deadline) before ≡ false = grind (arith, nat_tests) in
    refusal-is p index before e ∙ by_none (nat_le 8000000 index) (has_kind Rtp e) (nat_lt p.size (length e.body)) (nat_le (4000000 - p.deadline) before) index (length e.body) few k (le-ltb p.size (length e.body) l) room

pub refusal-write : (p : Protection) (index before : ℕ) (e : Record) → refusal p index before e ≡ Some Write → ⊥
refusal-write p index before e h = refusal-IsRefusal p index before e Write h

-- ---- what is kept
abbrev taken_by : List Record → ℕ → ℕ → ℕ → Taken
taken_by rtp a b c = record { rtp = length rtp; rtcp = a; cut = b; strange = c; offset = (last_source rtp).offset; timestamp = timestamp_of (last_source rtp).body }

same_taken : (rtp rtp' : List Record) (a a' b b' c c' : ℕ) → rtp ≡ rtp' → a ≡ a' → b ≡ b' → c ≡ c' → taken_by rtp a b c ≡ taken_by rtp' a' b' c'
same_taken rtp rtp' a a' b b' c c' e f g h =
    ap (λ r. taken_by r a b c) e ∙ ap (λ n. taken_by rtp' n b c) f ∙ ap (λ n. taken_by rtp' a' n c) g ∙ ap (λ n. taken_by rtp' a' b' n) h

-- records of a kind, counted with one more
count-yes : (k : Kind) (es : List Record) (e : Record) → has_kind k e ≡ true → count_by (has_kind k) (es ++ e ∷ []) ≡ count_by (has_kind k) es + 1
count-yes k es e h = sum_by_push (λ x. cond (has_kind k x) 1 0) es e ∙ ap (λ b. count_by (has_kind k) es + cond b 1 0) h

count-no : (k : Kind) (es : List Record) (e : Record) → has_kind k e ≡ false → count_by (has_kind k) (es ++ e ∷ []) ≡ count_by (has_kind k) es
count-no k es e h = let none : count_by (has_kind k) es + 0 ≡ count_by (has_kind k) es = omega arith in sum_by_push (λ x. cond (has_kind k x) 1 0) es e ∙ ap (λ b. count_by (has_kind k) es + cond b 1 0) h ∙ none

-- what a record that isn't RTP leaves
other_known : (p : Protection) (es : List Record) (e : Record) (taken taken' : Taken) (encoder : Encoder ℕ) → has_kind Rtp e ≡ false → taken' ≡ taken_of (es ++ e ∷ []) → Knows p es taken encoder
    → Knows p (es ++ e ∷ []) taken' encoder
other_known p es e taken taken' encoder h c k = record {
  counts = c;
  stands = subst (λ (rtp : List Record). StandsFor encoder (source_stream p rtp)) (sym (rtp_part-no es e h)) k.stands;
}

pub other_counts : (p : Protection) (index : ℕ) (e : Record) (taken taken' : Taken) (encoder : Encoder ℕ) (before : List ℕ) → index < 8000000 → IsOf p encoder → has_kind Rtp e ≡ false
    → ((es : List Record) → taken ≡ taken_of es → taken' ≡ taken_of (es ++ e ∷ [])) → Counts p index e taken taken' encoder encoder before before (Ok tt)
other_counts p index e taken taken' encoder before few of h more = (
  refusal-other p index taken.rtp e few h,
  of,
  λ es k. (
    other_known p es e taken taken' encoder h (more es k.counts) k,
    sym (append-nil before) ∙ ap (λ b. before ++ cond b (slot_text p (rtp_part es ++ e ∷ []) (length (rtp_part es))) []) (sym h),
  ),
)

pub rtcp_more : (e : Record) (taken : Taken) → kind e ≡ Rtcp → (es : List Record) → taken ≡ taken_of es → record taken { rtcp = taken.rtcp + 1 } ≡ taken_of (es ++ e ∷ [])
rtcp_more e taken k es h =
    ap (λ (t : Taken). record t { rtcp = t.rtcp + 1 }) h
    ∙ same_taken _ _ _ _ _ _ _ _ (sym (rtp_part-no es e (ap (is_kind Rtp) k))) (sym (count-yes Rtcp es e (ap (is_kind Rtcp) k))) (sym (count-no Cut es e (ap (is_kind Cut) k))) (sym (count-no Strange es e (ap (is_kind Strange) k)))

pub cut_more : (e : Record) (taken : Taken) → kind e ≡ Cut → (es : List Record) → taken ≡ taken_of es → record taken { cut = taken.cut + 1 } ≡ taken_of (es ++ e ∷ [])
cut_more e taken k es h =
    ap (λ (t : Taken). record t { cut = t.cut + 1 }) h
    ∙ same_taken _ _ _ _ _ _ _ _ (sym (rtp_part-no es e (ap (is_kind Rtp) k))) (sym (count-no Rtcp es e (ap (is_kind Rtcp) k))) (sym (count-yes Cut es e (ap (is_kind Cut) k))) (sym (count-no Strange es e (ap (is_kind Strange) k)))

pub strange_more : (e : Record) (taken : Taken) → kind e ≡ Strange → (es : List Record) → taken ≡ taken_of es → record taken { strange = taken.strange + 1 } ≡ taken_of (es ++ e ∷ [])
strange_more e taken k es h =
    ap (λ (t : Taken). record t { strange = t.strange + 1 }) h
    ∙ same_taken _ _ _ _ _ _ _ _ (sym (rtp_part-no es e (ap (is_kind Rtp) k))) (sym (count-no Rtcp es e (ap (is_kind Rtcp) k))) (sym (count-no Cut es e (ap (is_kind Cut) k))) (sym (count-yes Strange es e (ap (is_kind Strange) k)))

-- there are at most as many of each kind as there are records
pub few_of : (es : List Record) → AreFew (length es) (taken_of es)
few_of es = record {
  rtp = omega (arith, length-filter (has_kind Rtp) es, count_by-le-length (has_kind Rtp) es);
  rtcp = count_by-le-length (has_kind Rtcp) es;
  cut = count_by-le-length (has_kind Cut) es;
  strange = count_by-le-length (has_kind Strange) es;
}

last-push : (rtp : List Record) (e : Record) → last_source (rtp ++ e ∷ []) ≡ e
last-push rtp e = get_or_push rtp e empty_record (length (rtp ++ e ∷ []) - 1) (omega (arith, length-append rtp (e ∷ [])))

-- an RTP record more
rtp_more : (e : Record) (taken : Taken) (time off : ℕ) → kind e ≡ Rtp → time ≡ timestamp_of e.body → off ≡ e.offset → (es : List Record) → taken ≡ taken_of es
    → record taken { rtp = taken.rtp + 1; offset = off; timestamp = time } ≡ taken_of (es ++ e ∷ [])
rtp_more e taken time off k et eo es h =
    let rtp = rtp_part es ++ e ∷ [] in
    let size : length (rtp_part es) + 1 ≡ length rtp = sym (length-append (rtp_part es) (e ∷ [])) in
    let source : e ≡ last_source rtp = sym (last-push (rtp_part es) e) in
    ap (λ (t : Taken). record t { rtp = t.rtp + 1; offset = off; timestamp = time }) h
    ∙ ap (λ n. record (taken_of es) { rtp = n; offset = off; timestamp = time }) size
    ∙ ap (λ n. record (taken_of es) { rtp = length rtp; offset = n; timestamp = time }) (eo ∙ ap (λ (x : Record). x.offset) source)
    ∙ ap (λ n. record (taken_of es) { rtp = length rtp; offset = (last_source rtp).offset; timestamp = n }) (et ∙ ap (λ (x : Record). timestamp_of x.body) source)
    ∙ same_taken _ _ _ _ _ _ _ _ (sym (rtp_part-yes es e (ap (is_kind Rtp) k))) (sym (count-no Rtcp es e (ap (is_kind Rtcp) k))) (sym (count-no Cut es e (ap (is_kind Cut) k))) (sym (count-no Strange es e (ap (is_kind Strange) k)))

-- ---- the slot of one RTP record more
stream_push : (p : Protection) (rtp : List Record) (e : Record) → source_stream p (rtp ++ e ∷ []) ≡ source_stream p rtp ++ cut p.code.k p.m (frame_in p e) ∷ []
stream_push p rtp e = map_push (λ x. cut p.code.k p.m (frame_in p x)) rtp e

pub source_slot : (p : Protection) (rtp : List Record) (e : Record) (n time off : ℕ) → n ≡ length rtp → time ≡ timestamp_of e.body → off ≡ e.offset
    → next_text p.code p.m (source_stream p rtp) (record { number = n; end = 0; timestamp = time; offset = off }) (frame_in p e) ≡ slot_text p (rtp ++ e ∷ []) (length rtp)
unfolding next_text slot_text
source_slot p rtp e n time off en et eo =
    let all = rtp ++ e ∷ [] in
    let t = length rtp in
    let size : length all ≡ t + 1 = length-append rtp (e ∷ []) in
    let there : get_or all t empty_record ≡ e = get_or_push rtp e empty_record t refl in
    let place : min t (length all - 1) ≡ t = omega arith in
    let source : source_of all t ≡ e = ap (λ i. get_or all i empty_record) place ∙ there in
    let is = source_there p all t (omega arith) in
    let xs = source_stream p rtp in
    let par : parity 0 gf256_product p.code p.m (xs ++ cut p.code.k p.m (frame_in p e) ∷ []) (length xs) ≡ parity 0 gf256_product p.code p.m (stream p all) t =
    ap (parity 0 gf256_product p.code p.m (xs ++ cut p.code.k p.m (frame_in p e) ∷ [])) (length-source_stream p rtp)
    ∙ ap (λ (ys : List (List (List ℕ))). parity 0 gf256_product p.code p.m ys t) (sym (stream_push p rtp e)) ∙ sym is.par in
    ap (λ k. slot_bytes p.code.k p.code.r off (record { number = k; end = 0; m = p.m; timestamp = time; block = frame_in p e; parity = concat (parity 0 gf256_product p.code p.m (xs ++ cut p.code.k p.m (frame_in p e) ∷ []) (length xs)) })) en
    ∙ ap (λ o. slot_bytes p.code.k p.code.r o (record { number = t; end = 0; m = p.m; timestamp = time; block = frame_in p e; parity = concat (parity 0 gf256_product p.code p.m (xs ++ cut p.code.k p.m (frame_in p e) ∷ []) (length xs)) })) (eo ∙ ap (λ (x : Record). x.offset) (sym source))
    ∙ ap (slot_bytes p.code.k p.code.r (source_of all t).offset)
    (same_slot t 0 (t + 1 - length all) p.m time (timestamp_of (source_of all t).body) (frame_in p e) (get_or (blocks p all) t [])
    (concat (parity 0 gf256_product p.code p.m (xs ++ cut p.code.k p.m (frame_in p e) ∷ []) (length xs))) (concat (parity 0 gf256_product p.code p.m (stream p all) t))
    (sym is.end) (et ∙ ap (λ (x : Record). timestamp_of x.body) (sym source)) (ap (frame_in p) (sym there) ∙ sym is.block) (ap concat par))

-- the slot of an RTP record was put
pub source_counts : (p : Protection) (index : ℕ) (e : Record) (taken : Taken) (encoder encoder' : Encoder ℕ) (before after packet : List ℕ) (time off : ℕ) → kind e ≡ Rtp → packet ≡ e.body
    → time ≡ timestamp_of packet → off ≡ e.offset → IsOf p encoder
    → PutsSlot encoder encoder' (record { number = taken.rtp; end = 0; timestamp = time; offset = off }) (frame_bytes off packet (encoder.code.k * encoder.width)) before after
    → refusal p index taken.rtp e ≡ None → Counts p index e taken (record taken { rtp = taken.rtp + 1; offset = off; timestamp = time }) encoder encoder' before after (Ok tt)
source_counts p index e taken encoder encoder' before after packet time off k ep et eo of puts none =
    let stamp : time ≡ timestamp_of e.body = et ∙ ap timestamp_of ep in
    let block : frame_bytes off packet (encoder.code.k * encoder.width) ≡ frame_in p e =
    ap (λ o. frame_bytes o packet (encoder.code.k * encoder.width)) eo ∙ ap (λ l. frame_bytes e.offset l (encoder.code.k * encoder.width)) ep
    ∙ ap (λ (c : Code ℕ). frame_bytes e.offset e.body (c.k * encoder.width)) of.code ∙ ap (λ w. frame_bytes e.offset e.body (p.code.k * w)) of.width in
    let label : Label = record { number = taken.rtp; end = 0; timestamp = time; offset = off } in (
      none,
      record { code = puts.code ∙ of.code; width = puts.width ∙ of.width },
      λ es known.
          let xs = source_stream p (rtp_part es) in
          let count : taken.rtp ≡ length (rtp_part es) = ap (λ (t : Taken). t.rtp) known.counts in
          let text : next_text encoder.code encoder.width xs label (frame_bytes off packet (encoder.code.k * encoder.width)) ≡ slot_text p (rtp_part es ++ e ∷ []) (length (rtp_part es)) =
          ap (λ (c : Code ℕ). next_text c encoder.width xs label (frame_bytes off packet (encoder.code.k * encoder.width))) of.code
          ∙ ap (λ w. next_text p.code w xs label (frame_bytes off packet (encoder.code.k * encoder.width))) of.width
          ∙ ap (next_text p.code p.m xs label) block
          ∙ source_slot p (rtp_part es) e taken.rtp time off count stamp eo in
          let grown : xs ++ cut encoder.code.k encoder.width (frame_bytes off packet (encoder.code.k * encoder.width)) ∷ [] ≡ source_stream p (rtp_part (es ++ e ∷ [])) =
          ap (λ (c : Code ℕ). xs ++ cut c.k encoder.width (frame_bytes off packet (encoder.code.k * encoder.width)) ∷ []) of.code
          ∙ ap (λ w. xs ++ cut p.code.k w (frame_bytes off packet (encoder.code.k * encoder.width)) ∷ []) of.width
          ∙ ap (λ b. xs ++ cut p.code.k p.m b ∷ []) block
          ∙ sym (stream_push p (rtp_part es) e) ∙ ap (source_stream p) (sym (rtp_part-yes es e (ap (is_kind Rtp) k))) in (
            record {
              counts = rtp_more e taken time off k stamp eo es known.counts;
              stands = subst (StandsFor encoder') grown (puts.stands xs known.stands);
            },
            puts.waits xs known.stands ∙ ap (λ l. before ++ l) text
                ∙ ap (λ b. before ++ cond b (slot_text p (rtp_part es ++ e ∷ []) (length (rtp_part es))) []) (sym (ap (is_kind Rtp) k)),
          ),
    )

-- ---- one record
halts_by : (p : Protection) (index rtp : ℕ) (a b : Told) (e : Record) (fault : ProtectFault) → IsRecord e → refusal p index rtp e ≡ Some fault → HaltsAt p index rtp a b (record_bytes e) fault
halts_by p index rtp a b e (TooWide n) fits why = record { next = e; fits = fits; spelled = refl; why = why }
halts_by p index rtp a b e (Dump fault) fits why = absurd (refusal-dump p index rtp e fault why)
halts_by p index rtp a b e TooManyRecords fits why = record { next = e; fits = fits; spelled = refl; why = why }
halts_by p index rtp a b e (TooLong i l) fits why = record { next = e; fits = fits; spelled = refl; why = why }
halts_by p index rtp a b e TooManySlots fits why = record { next = e; fits = fits; spelled = refl; why = why }
halts_by p index rtp a b e Write fits why = record { next = e; fits = fits; spelled = refl; why = why }
halts_by p index rtp a b e Memory fits why = record { next = e; fits = fits; spelled = refl; why = why }

-- it was read, and refused
pub record_refused : (p : Protection) (index rtp : ℕ) (a b : Told) (e : Record) (before mid after : List ℕ) (fault : ProtectFault) → IsRecord e → Carries a b (record_bytes e) [] before mid
    → refusal p index rtp e ≡ Some fault → after ≡ mid → HaltsBehind p index rtp a b before after fault
record_refused p index rtp a b e before mid after fault fits x why same = record {
  tail = record_bytes e;
  carries = subst (Carries a b (record_bytes e) [] before) (sym same) x;
  at = halts_by p index rtp a b e fault fits why;
}

-- its reading stopped
pub record_stopped : (p : Protection) (index rtp : ℕ) (a b : Told) (before after : List ℕ) (fault : DumpFault) → StopsBehind index a b before after fault → HaltsBehind p index rtp a b before after (Dump fault)
record_stopped p index rtp a b before after fault s = record { tail = s.tail; carries = s.carries; at = s.at }
