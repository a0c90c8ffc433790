-- The steps of thinning: what they carry from the input to the output, and how the last of them ends the call.
use Rattle.std.proofs.Common.{◌≡◌, ◌⊎◌, inl, inr, ℕ, ◌+◌, ◌-◌, ◌<◌, ◌≤◌, Bool, true, false, cond, Option, None, Some, List, [], ◌∷◌, ◌++◌, length, take, drop, slice_index_or, is_ok, Result, Ok, Err, refl, sym, ap, ◌∙◌, subst, arith, append-nil, append_assoc, length-append, take_at}
use Rattle.std.proofs.lemmas.Bool.{lt-ltb, le-ltb}
use Rattle.std.proofs.lemmas.List.{drop_all}
use Rattle.std.proofs.lemmas.List.Sums.{count_by_more_yes, count_by_more_no}
use Rattle.std.specs.Io.KnownBytes.{IsAtEnd}
use Rattle.std.specs.List.{AllByRecursion}
use Rattle.sc_outside.specs.Ends.{IsLeft, input, read, write, memory, Ends}
use Rattle.sc_outside.specs.Faults.{Rose}
use Rattle.sc_outside.specs.Pending.{HasWay, FlushFailed, TakesBehind, EndsBefore}
use Rattle.sc_outside.specs.Port.{Told, Moves, Takes, Puts}
use Rattle.sc_outside.specs.Whole.{ReadFailed, WriteFailed}
use Rattle.sc_outside.proofs.EndsLaws.{IsPrefix-nil, some_left}
use Rattle.sc_outside.proofs.FaultsLaws.{Rose-earlier}
use Rattle.sc_outside.proofs.MovesLaws.{Moves-none, Moves-trans}
use Rattle.sc_channel.specs.Flags.{set_count}
use Rattle.sc_rtpdump.specs.declared.fault.DumpFault.{DumpFault}
use Rattle.sc_rtpdump.specs.declared.fault.DumpFault.TheVariants.{Preamble, RecordHead, RecordLength, Truncated, Read, Memory}
use Rattle.sc_rtpdump.specs.declared.thin.DropFault.{DropFault}
use Rattle.sc_rtpdump.specs.declared.thin.DropFault.TheVariants.{Dump, More, Fewer, Write}
use Rattle.sc_rtpdump.specs.declared.thin.Dropped.{Dropped}
use Rattle.sc_rtpdump.specs.declared.head.Head.{Head}
use Rattle.sc_rtpdump.specs.Head.{IsHead, StopsAt, Stops}
use Rattle.sc_rtpdump.specs.Preamble.{IsPreamble, preamble_len, PreambleGives}
use Rattle.sc_rtpdump.specs.Record.{Record, IsRecord, head_bytes, record_bytes, length_field, Break, short_head, short_length, cut_body, Front, ends, breaks, starts, front_of}
use Rattle.sc_rtpdump.specs.Capture.{records_bytes, Parts, parts_within, reads, reading_of}
use Rattle.sc_rtpdump.specs.Thin.{kept, end_at, rest_end, thin_end, thin_text, thinning, BodyTaken, Carries, Loses, kept_bytes, StopsBehind, TakeGives, Reached, StopsAfter, EndGives, LosesAfter}
use Rattle.sc_rtpdump.proofs.CaptureLaws.{front_of-end, front_of-head, front_of-length, front_of-body, length_field-front, reading_of-preamble, reading_of-none, parts_of-along, with_all, records-with_all, tail-with_all}
use Rattle.sc_rtpdump.proofs.GrowLaws.{found}
use Rattle.sc_rtpdump.proofs.HeadLaws.{length_field-head}
use Rattle.sc_rtpdump.proofs.NextSteps.{record_bytes-is}
use Rattle.sc_rtpdump.proofs.ReadingLaws.{reading_of-only}
use Rattle.sc_rtpdump.proofs.ThinLaws.{kept-none, records_bytes-append, text-append}

-- ---- what is carried

-- what waited was given in part
pub Carries-put : (a b : Told) (before after put : List ℕ) → before ≡ put ++ after → Puts a b put → Carries a b [] [] before after
Carries-put a b before after put parts puts = record { put = put; moves = puts.moves; parts = append-nil before ∙ parts }

-- bytes were taken, and others put behind those that waited
pub Carries-take : (a b : Told) (taken more before after : List ℕ) → Takes a b taken → after ≡ before ++ more → Carries a b taken more before after
Carries-take a b taken more before after takes e = record { put = []; moves = takes.moves; parts = sym e }

pub Carries-trans : (a b c : Told) (t u m n p q r : List ℕ) → Carries a b t m p q → Carries b c u n q r → Carries a c (t ++ u) (m ++ n) p r
Carries-trans a b c t u m n p q r x y = record {
  put = x.put ++ y.put;
  moves = Moves-trans a b c t u x.put y.put x.moves y.moves;
  parts = sym (append_assoc p m n) ∙ ap (λ l. l ++ n) x.parts ∙ append_assoc x.put q n ∙ ap (λ l. x.put ++ l) y.parts ∙ sym (append_assoc x.put y.put r);
}

pub Loses-after : (a b c : Told) (t u p q lacking : List ℕ) → Carries a b t [] p q → Loses b c u q lacking → Loses a c (t ++ u) p lacking
Loses-after a b c t u p q lacking x y = record {
  carries = Carries-trans a b c t u [] [] p q lacking x y.carries;
  short = y.short;
  rose = Rose-earlier _ _ _ x.moves.write_faults y.rose;
}

-- a flush that failed
pub Loses-flush : (a b : Told) (before after : List ℕ) → (h : FlushFailed before after a b) → Loses a b [] before h.failed.rest
Loses-flush a b before after h = record {
  carries = Carries-put a b before h.failed.rest h.failed.put h.failed.parts h.failed.puts;
  short = h.failed.short;
  rose = h.failed.rose;
}

pub Carries-way : (a b : Told) (before after : List ℕ) (n room : ℕ) → HasWay before after a b n room → Carries a b [] [] before after
Carries-way a b before after n room h = Carries-put a b before after h.put h.parts h.puts.puts

-- ---- the body of a record

first_back : (before more : List ℕ) → take (length before) (before ++ more) ≡ before
first_back before more = take_at before more (length before) refl

-- behind the bytes that waited
pub body_whole : (index : ℕ) (lost : Bool) (head : Head) (a b : Told) (before pushed after now : List ℕ) (n : ℕ) → IsHead head → 8 ≤ head.len → n ≡ head.len - 8
    → pushed ≡ before ++ head_bytes head.len head.plen head.offset → TakesBehind pushed after a b n
    → ((lost ≡ true) × (now ≡ take (length before) after)) ⊎ ((lost ≡ false) × (now ≡ after)) → BodyTaken index lost head a b before now (Ok true)
body_whole index lost head a b before pushed after now n fits least size e t kept =
    let front = head_bytes head.len head.plen head.offset in
    let rec : Record = record { plen = head.plen; offset = head.offset; body = t.taken } in
    let count : 8 + length t.taken ≡ head.len = omega (arith, t.size) in
    let spelled : record_bytes rec ≡ front ++ t.taken = record_bytes-is rec head.len head.plen head.offset refl count in
    let all : after ≡ before ++ record_bytes rec =
    t.waits ∙ ap (λ l. l ++ t.taken) e ∙ append_assoc before front t.taken ∙ ap (λ l. before ++ l) (sym spelled) in
    (rec, record { plen = fits.1; offset = fits.2; body = omega (arith, count, fits.0) }, spelled, t.takes, waits lost rec all kept)
  where
    waits : (lost : Bool) (rec : Record) → after ≡ before ++ record_bytes rec → ((lost ≡ true) × (now ≡ take (length before) after)) ⊎ ((lost ≡ false) × (now ≡ after))
        → now ≡ before ++ kept_bytes lost rec
    waits true rec all (inl h) = h.1 ∙ ap (take (length before)) all ∙ first_back before (record_bytes rec) ∙ sym (append-nil before)
    waits true rec all (inr h) = absurd (cc)
    waits false rec all (inl h) = absurd (cc)
    waits false rec all (inr h) = h.1 ∙ all

kept_back : (before front pushed after now : List ℕ) → pushed ≡ before ++ front → after ≡ pushed → now ≡ take (length before) after → now ≡ before
kept_back before front pushed after now e f g = g ∙ ap (take (length before)) (f ∙ e) ∙ first_back before front

pub body_cut : (index : ℕ) (lost : Bool) (head : Head) (a b : Told) (before pushed after now : List ℕ) (n : ℕ) → IsHead head → 8 ≤ head.len → n ≡ head.len - 8
    → pushed ≡ before ++ head_bytes head.len head.plen head.offset → EndsBefore pushed after a b n → now ≡ take (length before) after
    → BodyTaken index lost head a b before now (Err (Truncated index))
body_cut index lost head a b before pushed after now n fits least size e t g =
    let front = head_bytes head.len head.plen head.offset in
    let many : length (front ++ t.taken) ≡ 8 + length t.taken = length-append front t.taken in
    let field : length_field (front ++ t.taken) ≡ head.len = length_field-head head.len head.plen head.offset t.taken fits.0 in
    (t.taken, t.takes, kept_back before front pushed after now e t.waits g, (refl, (omega (arith, many), omega (arith, many, field, t.short)), t.end))

pub body_failed : (index : ℕ) (lost : Bool) (head : Head) (a b : Told) (before pushed after now : List ℕ) (n : ℕ) → IsHead head → 8 ≤ head.len → n ≡ head.len - 8
    → pushed ≡ before ++ head_bytes head.len head.plen head.offset → after ≡ pushed → ReadFailed a b n → now ≡ take (length before) after
    → BodyTaken index lost head a b before now (Err Read)
body_failed index lost head a b before pushed after now n fits least size e f t g =
    let front = head_bytes head.len head.plen head.offset in
    let many : length (front ++ t.taken) ≡ 8 + length t.taken = length-append front t.taken in
    let field : length_field (front ++ t.taken) ≡ head.len = length_field-head head.len head.plen head.offset t.taken fits.0 in
    (t.taken, t.takes, kept_back before front pushed after now e f g, (λ _. omega (arith, many, field, t.short), t.rose))

pub StopsAt-earlier : (index : ℕ) (a b c : Told) (tail : List ℕ) (fault : DumpFault) → a.read_faults ≤ b.read_faults → StopsAt index b c tail fault → StopsAt index a c tail fault
StopsAt-earlier index a b c tail (RecordHead i) h s = s
StopsAt-earlier index a b c tail (RecordLength i) h s = s
StopsAt-earlier index a b c tail (Truncated i) h s = s
StopsAt-earlier index a b c tail Read h s = (s.0, Rose-earlier _ _ _ h s.1)
StopsAt-earlier index a b c tail Preamble h s = absurd s
StopsAt-earlier index a b c tail Memory h s = absurd s

-- the head of a record was taken, and then way made for its body
pub head_carried : (a b c d : Told) (front p q r : List ℕ) → Carries a b [] [] p q → Takes b c front → Carries c d [] [] q r → Carries a d front [] p r
head_carried a b c d front p q r x t y =
    let taken = Carries-trans a b c [] front [] [] p q q x (Carries-take b c front [] q q t (sym (append-nil q))) in
    subst (λ l. Carries a d l [] p r) (append-nil front) (Carries-trans a c d front [] [] [] p q r taken y)

pub head_lost : (a b c d : Told) (front p q after : List ℕ) → Carries a b [] [] p q → Takes b c front → FlushFailed q after c d
    → (tail : List ℕ) × (lacking : List ℕ) × Loses a d tail p lacking
head_lost a b c d front p q after x t h =
    let taken = Carries-trans a b c [] front [] [] p q q x (Carries-take b c front [] q q t (sym (append-nil q))) in
    (front ++ [], h.failed.rest, Loses-after a c d front [] p q h.failed.rest taken (Loses-flush c d q after h))

pub carries_end : (a b c : Told) (p q : List ℕ) → Carries a b [] [] p q → Takes b c [] → Carries a c [] [] p q
carries_end a b c p q x t = Carries-trans a b c [] [] [] [] p q q x (Carries-take b c [] [] q q t (sym (append-nil q)))

-- a body behind its head
pub body_taken : (index : ℕ) (lost : Bool) (head : Head) (a b c : Told) (before after now : List ℕ) (result : Result Bool DumpFault)
    → Carries a b (head_bytes head.len head.plen head.offset) [] before after → BodyTaken index lost head b c after now result → TakeGives index lost a c before now result
body_taken index lost head a b c before after now (Ok true) x y =
    let front = head_bytes head.len head.plen head.offset in
    let rec = y.0 in (
      rec,
      y.1,
      subst (λ l. Carries a c l (kept_bytes lost rec) before now) (sym y.2)
          (Carries-trans a b c front rec.body [] (kept_bytes lost rec) before after now x (Carries-take b c rec.body (kept_bytes lost rec) after now y.3 y.4)),
    )
body_taken index lost head a b c before after now (Ok false) x y = absurd y
body_taken index lost head a b c before after now (Err fault) x y =
    let front = head_bytes head.len head.plen head.offset in
    let part = y.0 in
    record {
      tail = front ++ part;
      carries = Carries-trans a b c front part [] [] before after now x (Carries-take b c part [] after now y.1 (y.2 ∙ sym (append-nil after)));
      at = StopsAt-earlier index a b c (front ++ part) fault x.moves.read_faults y.3;
    }

-- ---- where the reading of a record stopped

pub StopsAt-later : (index : ℕ) (a b c : Told) (tail put : List ℕ) (fault : DumpFault) → Puts b c put → StopsAt index a b tail fault → StopsAt index a c tail fault
StopsAt-later index a b c tail put (RecordHead i) p s = (s.0, s.1, subst IsAtEnd (sym p.left) s.2)
StopsAt-later index a b c tail put (RecordLength i) p s = s
StopsAt-later index a b c tail put (Truncated i) p s = (s.0, s.1, subst IsAtEnd (sym p.left) s.2)
StopsAt-later index a b c tail put Read p s = (s.0, subst (Rose a.read_faults) (sym p.read_faults) s.1)
StopsAt-later index a b c tail put Preamble p s = absurd s
StopsAt-later index a b c tail put Memory p s = absurd s

-- behind the bytes that were carried before
pub stops_behind : (index : ℕ) (a b c : Told) (fault : DumpFault) (before after : List ℕ) → Carries a b [] [] before after → Stops index b c fault → StopsBehind index a c before after fault
stops_behind index a b c fault before after x s = record {
  tail = s.tail;
  carries = Carries-trans a b c [] s.tail [] [] before after after x (Carries-take b c s.tail [] after after s.takes (sym (append-nil after)));
  at = StopsAt-earlier index a b c s.tail fault x.moves.read_faults s.at;
}

-- ---- so many records

pub Reached-none : (flags : List Bool) (a : Told) (waiting : List ℕ) → waiting ≡ [] → Reached flags a a 0 [] waiting
Reached-none flags a waiting e = record {
  records = [];
  fit = tt;
  count = refl;
  put = [];
  moves = Moves-none a;
  parts = ap records_bytes (kept-none flags) ∙ sym e;
}

pub All-append : (es : List Record) (e : Record) → AllByRecursion IsRecord es → IsRecord e → AllByRecursion IsRecord (es ++ e ∷ [])
All-append [] e h g = (g, tt)
All-append (x ∷ es) e h g = (h.0, All-append es e h.1 g)

-- one record more, of whose flag this is known
more_bytes : (flags rest : List Bool) (n : ℕ) (lost : Bool) (e : Record) → drop n flags ≡ lost ∷ rest → records_bytes (kept (drop n flags) (e ∷ [])) ≡ kept_bytes lost e
more_bytes flags rest n true e at = ap (λ l. records_bytes (kept l (e ∷ []))) at ∙ ap records_bytes (kept-none rest)
more_bytes flags rest n false e at = ap (λ l. records_bytes (kept l (e ∷ []))) at ∙ ap (λ l. record_bytes e ++ records_bytes l) (kept-none rest) ∙ append-nil (record_bytes e)

Reached-one : (flags : List Bool) (a b c : Told) (n : ℕ) (before after more : List ℕ) (e : Record) → records_bytes (kept (drop n flags) (e ∷ [])) ≡ more → IsRecord e
    → Reached flags a b n [] before → Carries b c (record_bytes e) more before after → Reached flags a c (n + 1) [] after
Reached-one flags a b c n before after more e is fits h x =
    let es = h.records in
    let bytes : (records_bytes es ++ []) ++ record_bytes e ≡ records_bytes (es ++ e ∷ []) ++ [] =
    ap (λ l. l ++ record_bytes e) (append-nil (records_bytes es))
    ∙ ap (λ l. records_bytes es ++ l) (sym (append-nil (record_bytes e)))
    ∙ sym (records_bytes-append es (e ∷ []))
    ∙ sym (append-nil (records_bytes (es ++ e ∷ []))) in
    let text : records_bytes (kept flags (es ++ e ∷ [])) ≡ records_bytes (kept flags es) ++ more =
    text-append flags es (e ∷ []) ∙ ap (λ m. records_bytes (kept flags es) ++ records_bytes (kept (drop m flags) (e ∷ []))) h.count ∙ ap (λ l. records_bytes (kept flags es) ++ l) is in
    record {
      records = es ++ e ∷ [];
      fit = All-append es e h.fit fits;
      count = omega (arith, length-append es (e ∷ []), h.count);
      put = h.put ++ x.put;
      moves = subst (λ l. Moves a c l (h.put ++ x.put)) bytes (Moves-trans a b c (records_bytes es ++ []) (record_bytes e) h.put x.put h.moves x.moves);
      parts = text ∙ ap (λ l. l ++ more) h.parts ∙ append_assoc h.put before more ∙ ap (λ l. h.put ++ l) x.parts ∙ sym (append_assoc h.put x.put after);
    }

pub Reached-more : (flags rest : List Bool) (a b c : Told) (n : ℕ) (lost : Bool) (before after : List ℕ) (e : Record) → drop n flags ≡ lost ∷ rest → IsRecord e
    → Reached flags a b n [] before → Carries b c (record_bytes e) (kept_bytes lost e) before after → Reached flags a c (n + 1) [] after
Reached-more flags rest a b c n lost before after e at fits h x =
    Reached-one flags a b c n before after (kept_bytes lost e) e (more_bytes flags rest n lost e at) fits h x

-- one record more than flags
pub Reached-last : (flags : List Bool) (a b c : Told) (n : ℕ) (before after : List ℕ) (e : Record) → length flags ≡ n → IsRecord e
    → Reached flags a b n [] before → Carries b c (record_bytes e) [] before after → Reached flags a c (n + 1) [] after
Reached-last flags a b c n before after e all fits h x =
    Reached-one flags a b c n before after [] e (ap (λ l. records_bytes (kept l (e ∷ []))) (drop_all n flags (omega arith))) fits h x

-- and a tail of them
pub Reached-tail : (flags : List Bool) (a b c : Told) (n : ℕ) (tail before after : List ℕ) → Reached flags a b n [] before → Carries b c tail [] before after
    → Reached flags a c n tail after
Reached-tail flags a b c n tail before after h x =
    let es = h.records in
    record {
      records = es;
      fit = h.fit;
      count = h.count;
      put = h.put ++ x.put;
      moves = subst (λ l. Moves a c (l ++ tail) (h.put ++ x.put)) (append-nil (records_bytes es)) (Moves-trans a b c (records_bytes es ++ []) tail h.put x.put h.moves x.moves);
      parts = h.parts ∙ ap (λ l. h.put ++ l) (sym (append-nil before) ∙ x.parts) ∙ sym (append_assoc h.put x.put after);
    }

reached_nil : (flags : List Bool) (a b : Told) (n : ℕ) (tail waiting : List ℕ) → Reached flags a b n tail waiting → Reached flags a b n tail (waiting ++ [])
reached_nil flags a b n tail waiting h = subst (Reached flags a b n tail) (sym (append-nil waiting)) h

-- what waited was given
Reached-flushed : (flags : List Bool) (a b c : Told) (n : ℕ) (tail put lacking : List ℕ) → Reached flags a b n tail (put ++ lacking) → Puts b c put → Reached flags a c n tail lacking
Reached-flushed flags a b c n tail put lacking h p =
    let t = records_bytes h.records ++ tail in
    record {
      records = h.records;
      fit = h.fit;
      count = h.count;
      put = h.put ++ put;
      moves = subst (λ l. Moves a c l (h.put ++ put)) (append-nil t) (Moves-trans a b c t [] h.put put h.moves p.moves);
      parts = h.parts ∙ sym (append_assoc h.put put lacking);
    }

pub stops_after : (flags : List Bool) (a b c : Told) (n : ℕ) (before after : List ℕ) (fault : DumpFault) → n ≤ length flags → Reached flags a b n [] before
    → StopsBehind n b c before after fault → StopsAfter flags a c after fault
stops_after flags a b c n before after fault bound h s = record {
  n = n;
  bound = bound;
  tail = s.tail;
  reached = Reached-tail flags a b c n s.tail before after h s.carries;
  at = StopsAt-earlier n a b c s.tail fault h.moves.read_faults s.at;
}

pub loses_after : (flags : List Bool) (a b c : Told) (n : ℕ) (before tail lacking : List ℕ) → Reached flags a b n [] before → Loses b c tail before lacking → LosesAfter flags a c
loses_after flags a b c n before tail lacking h x = record {
  n = n;
  tail = tail;
  lacking = lacking;
  reached = Reached-tail flags a b c n tail before lacking h x.carries;
  short = x.short;
  rose = Rose-earlier _ _ _ h.moves.write_faults x.rose;
}

-- one loss more, or none
pub count_more : (flags : List Bool) (i : ℕ) → i < length flags → (lost now : ℕ) → lost ≡ set_count (take i flags)
    → ((slice_index_or flags i false ≡ true) × (now ≡ lost + 1)) ⊎ ((slice_index_or flags i false ≡ false) × (now ≡ lost)) → now ≡ set_count (take (i + 1) flags)
count_more flags i within lost now so_far (inl set) = omega (arith, count_by_more_yes (λ f. f) flags i false within set.0, so_far, set.1)
count_more flags i within lost now so_far (inr clear) = omega (arith, count_by_more_no (λ f. f) flags i false within clear.0, so_far, clear.1)

-- ---- the end of the call

-- whole records and a tail that begins with none, behind a preamble
pub stopped_reading : (pre tail : List ℕ) (es : List Record) → IsPreamble pre → AllByRecursion IsRecord es → ((e : Record) (rest : List ℕ) → front_of tail ≡ starts e rest → ⊥)
    → reading_of (pre ++ (records_bytes es ++ tail)) ≡ reads pre (record { records = es; tail = tail })
stopped_reading pre tail es h fit none =
    reading_of-only _ pre (record { records = es; tail = tail }) (record { preamble_is = h; records_are = fit; spelled = refl; ended = none })

pub no_record : (tail : List ℕ) (front : Front) → front_of tail ≡ front → ((e : Record) (rest : List ℕ) → front ≡ starts e rest → ⊥) → (e : Record) (rest : List ℕ) → front_of tail ≡ starts e rest → ⊥
no_record tail front at h e rest found = h e rest (sym at ∙ found)

pub broken : (tail : List ℕ) (break : Break) → front_of tail ≡ breaks break → (e : Record) (rest : List ℕ) → front_of tail ≡ starts e rest → ⊥
broken tail break at = no_record tail (breaks break) at (λ e rest h. cc)

-- how thinning ends there
end_there : (flags : List Bool) (pre tail : List ℕ) (es : List Record) (front : Front) → IsPreamble pre → AllByRecursion IsRecord es → length es ≤ length flags → front_of tail ≡ front
    → ((e : Record) (rest : List ℕ) → front ≡ starts e rest → ⊥) → thin_end flags (reading_of (pre ++ (records_bytes es ++ tail))) ≡ end_at flags (length es) front
unfolding rest_end
end_there flags pre tail es front h fit few at none =
    ap (thin_end flags) (stopped_reading pre tail es h fit (no_record tail front at none))
    ∙ ap (λ b. cond b (Err More) (end_at flags (length es) (front_of tail))) (le-ltb (length flags) (length es) few)
    ∙ ap (end_at flags (length es)) at

text_there : (flags : List Bool) (pre tail : List ℕ) (es : List Record) → IsPreamble pre → AllByRecursion IsRecord es → ((e : Record) (rest : List ℕ) → front_of tail ≡ starts e rest → ⊥)
    → thin_text flags (reading_of (pre ++ (records_bytes es ++ tail))) ≡ pre ++ records_bytes (kept flags es)
text_there flags pre tail es h fit none = ap (thin_text flags) (stopped_reading pre tail es h fit none)

-- whole records and anything behind them
pub record Behind (pre more : List ℕ) (es : List Record) : Type 0 where
  pub others : List Record
  pub tail : List ℕ
  pub is : reading_of (pre ++ (records_bytes es ++ more)) ≡ reads pre (record { records = es ++ others; tail = tail })

parts_are : (p : Parts) (es : List Record) (t : List ℕ) → p.records ≡ es → p.tail ≡ t → p ≡ record { records = es; tail = t }
parts_are p es t e f = ap (λ l. record { records = l; tail = p.tail }) e ∙ ap (λ l. record { records = es; tail = l }) f

pub reading_behind : (pre more : List ℕ) (es : List Record) → IsPreamble pre → AllByRecursion IsRecord es → Behind pre more es
reading_behind pre more es h fit =
    let along = parts_of-along es more fit in
    let rest = parts_within along.0 more in
    record {
      others = rest.records;
      tail = rest.tail;
      is = reading_of-preamble pre (records_bytes es ++ more) h
          ∙ ap (reads pre) (along.2 ∙ parts_are (with_all es rest) (es ++ rest.records) rest.tail (records-with_all es rest) (tail-with_all es rest));
    }

text_behind : (flags : List Bool) (pre more : List ℕ) (es : List Record) → IsPreamble pre → AllByRecursion IsRecord es
    → (others : List ℕ) × (thin_text flags (reading_of (pre ++ (records_bytes es ++ more))) ≡ pre ++ (records_bytes (kept flags es) ++ others))
text_behind flags pre more es h fit =
    let b = reading_behind pre more es h fit in
    (records_bytes (kept (drop (length es) flags) b.others), ap (thin_text flags) b.is ∙ ap (λ l. pre ++ l) (text-append flags es b.others))

-- ---- with the preamble before

record Whole (flags : List Bool) (a d : Told) (pre : List ℕ) (n : ℕ) (tail lacking : List ℕ) : Type 0 where
  is : IsPreamble pre
  records : List Record
  fit : AllByRecursion IsRecord records
  count : length records ≡ n
  put : List ℕ
  moves : Moves a d (pre ++ (records_bytes records ++ tail)) (pre ++ put)
  parts : records_bytes (kept flags records) ≡ put ++ lacking

whole : (flags : List Bool) (a b c d : Told) (pre : List ℕ) (n : ℕ) (tail lacking : List ℕ) → IsPreamble pre → Takes a b pre → Puts b c pre → Reached flags c d n tail lacking
    → Whole flags a d pre n tail lacking
whole flags a b c d pre n tail lacking h t p r = record {
  is = h;
  records = r.records;
  fit = r.fit;
  count = r.count;
  put = r.put;
  moves = Moves-trans a c d pre (records_bytes r.records ++ tail) pre r.put
      (subst (λ l. Moves a c l pre) (append-nil pre) (Moves-trans a b c pre [] [] pre t.moves p.moves)) r.moves;
  parts = r.parts;
}

-- the input decided, at bytes that it goes on with
decided_by : (flags : List Bool) (a d : Told) (pre rest : List ℕ) (n : ℕ) (tail : List ℕ) (answer : Result Dropped DropFault) → (w : Whole flags a d pre n tail []) → IsLeft d.left rest
    → thin_end flags (reading_of ((pre ++ (records_bytes w.records ++ tail)) ++ rest)) ≡ answer
    → thin_text flags (reading_of ((pre ++ (records_bytes w.records ++ tail)) ++ rest)) ≡ pre ++ records_bytes (kept flags w.records)
    → (is_ok answer ≡ true → rest ≡ []) → Ends (thinning flags) a d answer
decided_by flags a d pre rest n tail answer w left e t ended = record {
  cause = input;
  taken = pre ++ (records_bytes w.records ++ tail);
  put = pre ++ w.put;
  moves = w.moves;
  unread = λ no. absurd (cc);
  caused = record {
    rest = rest;
    left = left;
    answered = e;
    given = t ∙ ap (λ l. pre ++ l) (w.parts ∙ append-nil w.put);
    ended = λ ok. ended (subst (λ r. is_ok r ≡ true) e ok);
  };
}

pub at_end_left : (left : Option (List ℕ)) → IsAtEnd left → IsLeft left []
at_end_left None h = tt
at_end_left (Some xs) h = h

-- at the end of the input
decided_end : (flags : List Bool) (a d : Told) (pre : List ℕ) (n : ℕ) (tail : List ℕ) (front : Front) → (w : Whole flags a d pre n tail []) → n ≤ length flags → IsAtEnd d.left
    → front_of tail ≡ front → ((e : Record) (rest : List ℕ) → front ≡ starts e rest → ⊥) → Ends (thinning flags) a d (end_at flags n front)
decided_end flags a d pre n tail front w few end at none =
    let all = pre ++ (records_bytes w.records ++ tail) in
    decided_by flags a d pre [] n tail (end_at flags n front) w (at_end_left d.left end)
    (ap (λ l. thin_end flags (reading_of l)) (append-nil all) ∙ end_there flags pre tail w.records front w.is w.fit (omega (arith, w.count)) at none ∙ ap (λ m. end_at flags m front) w.count)
    (ap (λ l. thin_text flags (reading_of l)) (append-nil all) ∙ text_there flags pre tail w.records w.is w.fit (no_record tail front at none))
    (λ ok. refl)

fewer-at : (flags : List Bool) (n : ℕ) → n < length flags → end_at flags n ends ≡ Err (Fewer n)
fewer-at flags n h = ap (λ b. cond b (Err (Fewer n)) (Ok (record { records = length flags; lost = set_count flags }))) (lt-ltb n (length flags) h)

whole-at : (flags : List Bool) → end_at flags (length flags) ends ≡ Ok (record { records = length flags; lost = set_count flags })
whole-at flags = ap (λ b. cond b (Err (Fewer (length flags))) (Ok (record { records = length flags; lost = set_count flags }))) (le-ltb (length flags) (length flags) (omega arith))

-- a record more than flags, whatever follows
more_end : (flags : List Bool) (a d : Told) (pre : List ℕ) (n : ℕ) → (w : Whole flags a d pre n [] []) → length flags < n → Ends (thinning flags) a d (Err More)
unfolding rest_end
more_end flags a d pre n w many =
    let left = some_left d.left in
    let rest = left.0 in
    let es = w.records in
    let same : (pre ++ (records_bytes es ++ [])) ++ rest ≡ pre ++ (records_bytes es ++ rest) =
    ap (λ l. (pre ++ l) ++ rest) (append-nil (records_bytes es)) ∙ append_assoc pre (records_bytes es) rest in
    let b = reading_behind pre rest es w.is w.fit in
    decided_by flags a d pre rest n [] (Err More) w left.1
    (ap (λ l. thin_end flags (reading_of l)) same ∙ ap (thin_end flags) b.is
    ∙ ap (λ t. cond t (Err More) (end_at flags (length (es ++ b.others)) (front_of b.tail))) (lt-ltb (length flags) (length (es ++ b.others)) (omega (arith, length-append es b.others, w.count))))
    (ap (λ l. thin_text flags (reading_of l)) same ∙ ap (thin_text flags) b.is
    ∙ ap (λ l. pre ++ l) (text-append flags es b.others ∙ ap (λ l. records_bytes (kept flags es) ++ records_bytes (kept l b.others)) (drop_all (length es) flags (omega (arith, w.count))) ∙ append-nil (records_bytes (kept flags es))))
    (λ ok. absurd (cc))

-- a length below 8, whatever follows
length_end : (flags : List Bool) (a d : Told) (pre : List ℕ) (n : ℕ) (tail : List ℕ) → (w : Whole flags a d pre n tail []) → n ≤ length flags → length tail ≡ 8 → length_field tail < 8
    → Ends (thinning flags) a d (Err (Dump (RecordLength n)))
length_end flags a d pre n tail w few eight short =
    let left = some_left d.left in
    let rest = left.0 in
    let es = w.records in
    let same : (pre ++ (records_bytes es ++ tail)) ++ rest ≡ pre ++ (records_bytes es ++ (tail ++ rest)) =
    append_assoc pre (records_bytes es ++ tail) rest ∙ ap (λ l. pre ++ l) (append_assoc (records_bytes es) tail rest) in
    let at : front_of (tail ++ rest) ≡ breaks short_length =
    front_of-length (tail ++ rest) (omega (arith, length-append tail rest, eight)) (omega (arith, length_field-front tail rest (omega (arith, eight)), short)) in
    decided_by flags a d pre rest n tail (Err (Dump (RecordLength n))) w left.1
    (ap (λ l. thin_end flags (reading_of l)) same ∙ end_there flags pre (tail ++ rest) es (breaks short_length) w.is w.fit (omega (arith, w.count)) at (λ e r h. cc) ∙ ap (λ m. Err (Dump (RecordLength m))) w.count)
    (ap (λ l. thin_text flags (reading_of l)) same ∙ text_there flags pre (tail ++ rest) es w.is w.fit (broken (tail ++ rest) short_length at))
    (λ ok. absurd (cc))

-- bytes that are below a record begin with none
pub below_none : (tail : List ℕ) → (8 ≤ length tail → length tail < length_field tail) → (e : Record) (rest : List ℕ) → front_of tail ≡ starts e rest → ⊥
below_none tail below e rest h =
    let f = found tail e rest h in
    omega (arith, below f.eight, f.within)

read_end : (flags : List Bool) (a d : Told) (pre : List ℕ) (n : ℕ) (tail : List ℕ) → (w : Whole flags a d pre n tail []) → (8 ≤ length tail → length tail < length_field tail)
    → Rose a.read_faults d.read_faults → Ends (thinning flags) a d (Err (Dump Read))
read_end flags a d pre n tail w below rose = record {
  cause = read;
  taken = pre ++ (records_bytes w.records ++ tail);
  put = pre ++ w.put;
  moves = w.moves;
  unread = λ no. absurd (cc);
  caused = (refl, rose, ap (λ l. pre ++ l) (sym (w.parts ∙ append-nil w.put)) ∙ sym (text_there flags pre tail w.records w.is w.fit (below_none tail below)), refl);
}

fault_end : (flags : List Bool) (a c d : Told) (pre : List ℕ) (n : ℕ) (tail : List ℕ) (fault : DumpFault) → (w : Whole flags a d pre n tail []) → n ≤ length flags → a.read_faults ≤ c.read_faults
    → StopsAt n c d tail fault → Ends (thinning flags) a d (Err (Dump fault))
fault_end flags a c d pre n tail (RecordHead i) w few later s =
    subst (λ m. Ends (thinning flags) a d (Err (Dump (RecordHead m)))) (sym s.0)
    (decided_end flags a d pre n tail (breaks short_head) w few s.2 (front_of-head tail s.1.0 s.1.1) (λ e r h. cc))
fault_end flags a c d pre n tail (RecordLength i) w few later s =
    subst (λ m. Ends (thinning flags) a d (Err (Dump (RecordLength m)))) (sym s.0) (length_end flags a d pre n tail w few s.1.0 s.1.1)
fault_end flags a c d pre n tail (Truncated i) w few later s =
    subst (λ m. Ends (thinning flags) a d (Err (Dump (Truncated m)))) (sym s.0)
    (decided_end flags a d pre n tail (breaks cut_body) w few s.2 (front_of-body tail s.1.0 s.1.1) (λ e r h. cc))
fault_end flags a c d pre n tail Read w few later s = read_end flags a d pre n tail w s.0 (Rose-earlier _ _ _ later s.1)
fault_end flags a c d pre n tail Preamble w few later s = absurd s
fault_end flags a c d pre n tail Memory w few later s = absurd s

-- ---- all of it

-- what waited was given, and the records were taken to the end
pub records_end : (flags : List Bool) (a b c d f : Told) (pre waiting : List ℕ) (result : Result Dropped DropFault) → IsPreamble pre → Takes a b pre → Puts b c pre
    → EndGives flags c d waiting result → Puts d f waiting → Ends (thinning flags) a f result
records_end flags a b c d f pre waiting (Ok dropped) h t p e q =
    let w = whole flags a b c f pre (length flags) [] [] h t p (Reached-flushed flags c d f (length flags) [] waiting [] (reached_nil flags c d (length flags) [] waiting e.0) q) in
    subst (λ x. Ends (thinning flags) a f (Ok x)) (sym e.2)
    (subst (Ends (thinning flags) a f) (whole-at flags) (decided_end flags a f pre (length flags) [] ends w (omega arith) (subst IsAtEnd (sym q.left) e.1) (front_of-end [] refl) (λ x r i. cc)))
records_end flags a b c d f pre waiting (Err More) h t p e q =
    more_end flags a f pre (length flags + 1) (whole flags a b c f pre (length flags + 1) [] [] h t p (Reached-flushed flags c d f (length flags + 1) [] waiting [] (reached_nil flags c d (length flags + 1) [] waiting e) q)) (omega arith)
records_end flags a b c d f pre waiting (Err (Fewer n)) h t p e q =
    let w = whole flags a b c f pre n [] [] h t p (Reached-flushed flags c d f n [] waiting [] (reached_nil flags c d n [] waiting e.1) q) in
    subst (Ends (thinning flags) a f) (fewer-at flags n e.0) (decided_end flags a f pre n [] ends w (omega (arith, e.0)) (subst IsAtEnd (sym q.left) e.2) (front_of-end [] refl) (λ x r i. cc))
records_end flags a b c d f pre waiting (Err (Dump fault)) h t p e q =
    let w = whole flags a b c f pre e.n e.tail [] h t p (Reached-flushed flags c d f e.n e.tail waiting [] (reached_nil flags c d e.n e.tail waiting e.reached) q) in
    fault_end flags a c f pre e.n e.tail fault w e.bound (omega (arith, t.moves.read_faults, p.moves.read_faults)) (StopsAt-later e.n c d f e.tail waiting fault q e.at)
records_end flags a b c d f pre waiting (Err Write) h t p e q = absurd e

reached_so_far : (flags : List Bool) (c d : Told) (waiting : List ℕ) (result : Result Dropped DropFault) → EndGives flags c d waiting result
    → (n : ℕ) × (tail : List ℕ) × Reached flags c d n tail waiting
reached_so_far flags c d waiting (Ok dropped) e = (length flags, [], e.0)
reached_so_far flags c d waiting (Err More) e = (length flags + 1, [], e)
reached_so_far flags c d waiting (Err (Fewer n)) e = (n, [], e.1)
reached_so_far flags c d waiting (Err (Dump fault)) e = (e.n, e.tail, e.reached)
reached_so_far flags c d waiting (Err Write) e = absurd e

-- a write failed on the way
pub lost_end : (flags : List Bool) (a b c d : Told) (pre : List ℕ) → IsPreamble pre → Takes a b pre → Puts b c pre → LosesAfter flags c d → Ends (thinning flags) a d (Err Write)
lost_end flags a b c d pre h t p l =
    let w = whole flags a b c d pre l.n l.tail l.lacking h t p l.reached in
    let all = pre ++ (records_bytes w.records ++ l.tail) in
    let text = text_behind flags pre l.tail w.records h w.fit in
    record {
      cause = write;
      taken = all;
      put = pre ++ w.put;
      moves = w.moves;
      unread = λ no. absurd (cc);
      caused = (
        refl,
        Rose-earlier _ _ _ t.moves.write_faults (Rose-earlier _ _ _ p.moves.write_faults l.rose),
        inl (record {
          rest = l.lacking ++ text.0;
          parts = text.1 ∙ ap (λ k. pre ++ (k ++ text.0)) w.parts ∙ ap (λ k. pre ++ k) (append_assoc w.put l.lacking text.0) ∙ sym (append_assoc pre w.put (l.lacking ++ text.0));
          more = omega (arith, length-append l.lacking text.0, l.short);
        }),
      );
    }

-- the last flush failed
pub flush_end : (flags : List Bool) (a b c d f : Told) (pre waiting after : List ℕ) (result : Result Dropped DropFault) → IsPreamble pre → Takes a b pre → Puts b c pre
    → EndGives flags c d waiting result → FlushFailed waiting after d f → Ends (thinning flags) a f (Err Write)
flush_end flags a b c d f pre waiting after result h t p e q =
    let r = reached_so_far flags c d waiting result e in
    lost_end flags a b c f pre h t p (record {
      n = r.0;
      tail = r.1;
      lacking = q.failed.rest;
      reached = Reached-flushed flags c d f r.0 r.1 q.failed.put q.failed.rest (subst (Reached flags c d r.0 r.1) q.failed.parts r.2) q.failed.puts;
      short = q.failed.short;
      rose = Rose-earlier _ _ _ r.2.moves.write_faults q.failed.rose;
    })

-- a write failed within the preamble
pub preamble_lost : (flags : List Bool) (a b c : Told) (pre : List ℕ) → IsPreamble pre → Takes a b pre → WriteFailed b c pre → Ends (thinning flags) a c (Err Write)
preamble_lost flags a b c pre h t p =
    let text = text_behind flags pre [] [] h tt in
    record {
      cause = write;
      taken = pre;
      put = p.put;
      moves = subst (λ l. Moves a c l p.put) (append-nil pre) (Moves-trans a b c pre [] [] p.put t.moves p.puts.moves);
      unread = λ no. absurd (cc);
      caused = (
        refl,
        Rose-earlier _ _ _ t.moves.write_faults p.rose,
        inl (record {
          rest = p.rest ++ (records_bytes (kept flags []) ++ text.0);
          parts = ap (λ l. thin_text flags (reading_of l)) (sym (append-nil pre)) ∙ text.1 ∙ ap (λ l. l ++ (records_bytes (kept flags []) ++ text.0)) p.parts
              ∙ append_assoc p.put p.rest (records_bytes (kept flags []) ++ text.0);
          more = omega (arith, length-append p.rest (records_bytes (kept flags []) ++ text.0), p.short);
        }),
      );
    }

-- no preamble
no_preamble_there : (flags : List Bool) (a b : Told) (taken rest : List ℕ) → Takes a b taken → IsLeft b.left rest → preamble_len (taken ++ rest) ≡ None → Ends (thinning flags) a b (Err (Dump Preamble))
no_preamble_there flags a b taken rest t left none = record {
  cause = input;
  taken = taken;
  put = [];
  moves = t.moves;
  unread = λ no. absurd (cc);
  caused = record {
    rest = rest;
    left = left;
    answered = ap (thin_end flags) (reading_of-none (taken ++ rest) none);
    given = ap (thin_text flags) (reading_of-none (taken ++ rest) none);
    ended = λ ok. let no : false ≡ true = sym (ap (λ r. is_ok (thin_end flags r)) (reading_of-none (taken ++ rest) none)) ∙ ok in absurd (cc);
  };
}

pub preamble_end : (flags : List Bool) (a b : Told) (fault : DumpFault) → PreambleGives a b (Err fault) → Ends (thinning flags) a b (Err (Dump fault))
preamble_end flags a b Preamble h = elim h.holds as (λ _. Ends (thinning flags) a b (Err (Dump Preamble))) [
  | inl all ↦ (let left = some_left b.left in no_preamble_there flags a b h.taken left.0 h.takes left.1 (all left.0))
  | inr end ↦ no_preamble_there flags a b h.taken [] h.takes (at_end_left b.left end.1) (ap preamble_len (append-nil h.taken) ∙ end.0)
]
preamble_end flags a b Read h = record {
  cause = read;
  taken = h.0.taken;
  put = [];
  moves = h.0.takes.moves;
  unread = λ no. absurd (cc);
  caused = (refl, h.1, sym (ap (thin_text flags) (reading_of-none h.0.taken h.0.holds)), refl);
}
preamble_end flags a b Memory h = record {
  cause = memory;
  taken = [];
  put = [];
  moves = h.moves;
  unread = λ no. refl;
  caused = (refl, IsPrefix-nil [], refl);
}
preamble_end flags a b (RecordHead i) h = absurd h
preamble_end flags a b (RecordLength i) h = absurd h
preamble_end flags a b (Truncated i) h = absurd h
