-- The steps of protecting: many records, and how the last of them ends the call.
use Rattle.std.proofs.Common.{◌≡◌, inl, inr, ℕ, ◌+◌, ◌*◌, ◌<◌, ◌≤◌, Bool, true, false, nat_lt, Option, None, Some, List, [], ◌∷◌, ◌++◌, length, take, Result, Ok, Err, refl, sym, ap, ◌∙◌, subst, arith, append-nil, append_assoc, length-append, take_at}
use Rattle.std.specs.Io.KnownBytes.{IsAtEnd}
use Rattle.std.specs.List.{AllByRecursion}
use Rattle.sc_outside.specs.Ends.{IsPrefix, IsLeft, input, read, write, memory, Ends}
use Rattle.sc_outside.specs.Faults.{Rose}
use Rattle.sc_outside.specs.Pending.{FlushFailed}
use Rattle.sc_outside.specs.Port.{Told, Moves, Takes, Puts}
use Rattle.sc_outside.specs.Whole.{PutsAll, WriteFailed}
use Rattle.std.proofs.lemmas.Bool.{lt-ltb, le-ltb}
use Rattle.sc_outside.proofs.EndsLaws.{IsPrefix-nil, some_left, Ends-at_once, Ends-no_memory}
use Rattle.sc_outside.proofs.FaultsLaws.{Rose-earlier}
use Rattle.sc_outside.proofs.MovesLaws.{Moves-none, Moves-trans}
use Rattle.sc_rtpdump.specs.declared.fault.DumpFault.{DumpFault}
use Rattle.sc_rtpdump.specs.declared.fault.DumpFault.TheVariants.{Preamble, RecordHead, RecordLength, Truncated, Read, Memory as NoRoom}
use Rattle.sc_rtpdump.specs.Head.{StopsAt}
use Rattle.sc_rtpdump.specs.Preamble.{IsPreamble, preamble_len, PreambleGives}
use Rattle.sc_rtpdump.specs.Record.{Record, IsRecord, record_bytes, length_field, short_head, short_length, cut_body, Front, ends, breaks, starts, front_of}
use Rattle.sc_rtpdump.specs.Capture.{records_bytes, reading_of}
use Rattle.sc_rtpdump.specs.Thin.{Carries, StopsBehind}
use Rattle.sc_rtpdump.proofs.CaptureLaws.{front_of-end, front_of-head, front_of-length, front_of-body, length_field-front, reading_of-none}
use Rattle.sc_rtpdump.proofs.ThinLaws.{records_bytes-append}
use Rattle.sc_rtpdump.proofs.ThinSteps.{StopsAt-earlier, StopsAt-later, All-append, stopped_reading, no_record, below_none, at_end_left, reading_behind}
use Rattle.sc_code.specs.declared.code.CodeFile.{CodeFile}
use Rattle.sc_code.specs.Code.{Code}
use Rattle.sc_code.specs.Encoder.{Encoder}
use Rattle.sc_slots.specs.declared.protect.ProtectFault.{ProtectFault}
use Rattle.sc_slots.specs.declared.protect.ProtectFault.TheVariants.{TooWide, Dump, TooManyRecords, TooLong, TooManySlots, Write, Memory}
use Rattle.sc_slots.specs.declared.protect.Protected.{Protected}
use Rattle.sc_slots.specs.declared.protect.Taken.{Taken}
use Rattle.sc_slots.specs.Frame.{width_of}
use Rattle.sc_slots.specs.Protected.{Protection, protection_of, packet_len, too_wide, protecting_within, protecting, rtp_part, source_text, all_text, protected, refusal, first_refused, numbers, refused, due_behind, due_by, due_of, before_refused, text_so_far, protecting_by}
use Rattle.sc_slots.specs.ProtectSteps.{Knows, IsOf, AreFew, more_text, IsRefusedNext, HaltsAt, HaltsBehind, TakesRecord, LosesSome, Reached, Passed, TakesAll, HaltsAfter, LosesAfter, flush_text, fault_of, numbers_of, LastGives, GivesAll, LosesLast, RestGives}
use Rattle.sc_slots.proofs.ProtectedLaws.{source_text-more, all_text-parts, first_refused-none, first_refused-next, accepted_front}
use Rattle.sc_slots.proofs.TakeSteps.{refusal-write, refusal-many, few_of, record_refused, record_stopped}

-- ---- so many records

pub Passed-none : (p : Protection) (a : Told) (taken : Taken) (encoder : Encoder ℕ) (waiting : List ℕ) → Knows p [] taken encoder → waiting ≡ [] → Passed p a a 0 taken encoder waiting
Passed-none p a taken encoder waiting k e = record {
  records = [];
  count = refl;
  knows = k;
  reached = record { fit = tt; accepted = refl; put = []; moves = Moves-none a; parts = sym e };
}

-- one record more
pub Passed-more : (p : Protection) (a b c : Told) (n : ℕ) (taken taken' : Taken) (encoder encoder' : Encoder ℕ) (before after : List ℕ) → Passed p a b n taken encoder before
    → TakesRecord p n b c taken taken' encoder encoder' before after → Passed p a c (n + 1) taken' encoder' after
Passed-more p a b c n taken taken' encoder encoder' before after x t =
    let es = x.records in
    let e = t.next in
    let k = t.known es x.knows in
    let bytes : (records_bytes es ++ []) ++ record_bytes e ≡ records_bytes (es ++ e ∷ []) ++ [] =
    ap (λ l. l ++ record_bytes e) (append-nil (records_bytes es))
    ∙ ap (λ l. records_bytes es ++ l) (sym (append-nil (record_bytes e)))
    ∙ sym (records_bytes-append es (e ∷ []))
    ∙ sym (append-nil (records_bytes (es ++ e ∷ []))) in
    let ok : refusal p (length es) (length (rtp_part es)) e ≡ None =
    ap (λ m. refusal p m (length (rtp_part es)) e) x.count ∙ ap (λ (t : Taken). refusal p n t.rtp e) (sym x.knows.counts) ∙ t.accepted in
    record {
      records = es ++ e ∷ [];
      count = omega (arith, length-append es (e ∷ []), x.count);
      knows = k.0;
      reached = record {
        fit = All-append es e x.reached.fit t.fits;
        accepted = first_refused-none p es e x.reached.accepted ok;
        put = x.reached.put ++ k.1.put;
        moves = subst (λ l. Moves a c l (x.reached.put ++ k.1.put)) bytes (Moves-trans a b c (records_bytes es ++ []) (record_bytes e) x.reached.put k.1.put x.reached.moves k.1.moves);
        parts = source_text-more p es e ∙ ap (λ l. l ++ more_text p es e) x.reached.parts ∙ append_assoc x.reached.put before (more_text p es e) ∙ ap (λ l. x.reached.put ++ l) k.1.parts
            ∙ sym (append_assoc x.reached.put k.1.put after);
      };
    }

pub Passed-few : (p : Protection) (a b : Told) (n : ℕ) (taken : Taken) (encoder : Encoder ℕ) (waiting : List ℕ) → Passed p a b n taken encoder waiting → AreFew n taken
Passed-few p a b n taken encoder waiting x =
    subst (λ m. AreFew m taken) x.count (subst (AreFew (length x.records)) (sym x.knows.counts) (few_of x.records))

-- and a tail of them
Reached-carry : (p : Protection) (a b c : Told) (es : List Record) (tail before after : List ℕ) → Reached p a b es [] before → Carries b c tail [] before after → Reached p a c es tail after
Reached-carry p a b c es tail before after h x = record {
  fit = h.fit;
  accepted = h.accepted;
  put = h.put ++ x.put;
  moves = subst (λ l. Moves a c (l ++ tail) (h.put ++ x.put)) (append-nil (records_bytes es)) (Moves-trans a b c (records_bytes es ++ []) tail h.put x.put h.moves x.moves);
  parts = h.parts ∙ ap (λ l. h.put ++ l) (sym (append-nil before) ∙ x.parts) ∙ sym (append_assoc h.put x.put after);
}

pub takes_all : (p : Protection) (a b c : Told) (n : ℕ) (taken : Taken) (encoder : Encoder ℕ) (before after : List ℕ) → n ≤ 8000000 → Passed p a b n taken encoder before → IsOf p encoder → Carries b c [] [] before after → IsAtEnd c.left
    → TakesAll p a c taken encoder after
takes_all p a b c n taken encoder before after bound x of y end = record {
  n = n;
  bound = bound;
  passed = record { records = x.records; count = x.count; knows = x.knows; reached = Reached-carry p a b c x.records [] before after x.reached y };
  is_of = of;
  end = end;
}

few_more : (n m : ℕ) (taken : Taken) → n ≤ m → AreFew n taken → AreFew m taken
few_more n m taken h f = record { rtp = omega (arith, f.rtp); rtcp = omega (arith, f.rtcp); cut = omega (arith, f.cut); strange = omega (arith, f.strange) }

pub all_few : (p : Protection) (a b : Told) (taken : Taken) (encoder : Encoder ℕ) (waiting : List ℕ) → TakesAll p a b taken encoder waiting → AreFew 8000000 taken
all_few p a b taken encoder waiting x = few_more x.n 8000000 taken x.bound (Passed-few p a b x.n taken encoder waiting x.passed)

-- the width is kept
pub fits_kept : (p : Protection) (size : ℕ) (old new : Encoder ℕ) → IsOf p old → IsOf p new → size + 6 ≤ old.code.k * old.width → size + 6 ≤ new.code.k * new.width
fits_kept p size old new x y h =
    let k : old.code.k ≡ new.code.k = ap (λ (c : Code ℕ). c.k) (x.code ∙ sym y.code) in
    let w : old.width ≡ new.width = x.width ∙ sym y.width in
    subst (λ n. size + 6 ≤ n * new.width) k (subst (λ n. size + 6 ≤ old.code.k * n) w h)

halts_earlier : (p : Protection) (index rtp : ℕ) (a b c : Told) (tail : List ℕ) (fault : ProtectFault) → a.read_faults ≤ b.read_faults → HaltsAt p index rtp b c tail fault → HaltsAt p index rtp a c tail fault
halts_earlier p index rtp a b c tail (TooWide n) h s = s
halts_earlier p index rtp a b c tail (Dump fault) h s = StopsAt-earlier index a b c tail fault h s
halts_earlier p index rtp a b c tail TooManyRecords h s = s
halts_earlier p index rtp a b c tail (TooLong i l) h s = s
halts_earlier p index rtp a b c tail TooManySlots h s = s
halts_earlier p index rtp a b c tail Write h s = s
halts_earlier p index rtp a b c tail Memory h s = s

halts_later : (p : Protection) (index rtp : ℕ) (a b c : Told) (tail put : List ℕ) (fault : ProtectFault) → Puts b c put → HaltsAt p index rtp a b tail fault → HaltsAt p index rtp a c tail fault
halts_later p index rtp a b c tail put (TooWide n) h s = s
halts_later p index rtp a b c tail put (Dump fault) h s = StopsAt-later index a b c tail put fault h s
halts_later p index rtp a b c tail put TooManyRecords h s = s
halts_later p index rtp a b c tail put (TooLong i l) h s = s
halts_later p index rtp a b c tail put TooManySlots h s = s
halts_later p index rtp a b c tail put Write h s = s
halts_later p index rtp a b c tail put Memory h s = s

pub halts_after : (p : Protection) (a b c : Told) (n : ℕ) (taken : Taken) (encoder : Encoder ℕ) (before after : List ℕ) (fault : ProtectFault) → Passed p a b n taken encoder before → HaltsBehind p n taken.rtp b c before after fault
    → HaltsAfter p a c after fault
halts_after p a b c n taken encoder before after fault x h =
    let rtp : taken.rtp ≡ length (rtp_part x.records) = ap (λ (t : Taken). t.rtp) x.knows.counts in
    record {
      records = x.records;
      tail = h.tail;
      reached = Reached-carry p a b c x.records h.tail before after x.reached h.carries;
      at = halts_earlier p (length x.records) (length (rtp_part x.records)) a b c h.tail fault x.reached.moves.read_faults
          (subst (λ m. HaltsAt p m (length (rtp_part x.records)) b c h.tail fault) (sym x.count) (subst (λ m. HaltsAt p n m b c h.tail fault) rtp h.at));
    }

pub loses_after : (p : Protection) (a b c : Told) (n : ℕ) (taken : Taken) (encoder : Encoder ℕ) (before : List ℕ) → Passed p a b n taken encoder before → LosesSome b c before → LosesAfter p a c
loses_after p a b c n taken encoder before x l = record {
  records = x.records;
  tail = l.0;
  lacking = l.1;
  reached = Reached-carry p a b c x.records l.0 before l.1 x.reached l.2.carries;
  short = l.2.short;
  rose = Rose-earlier _ _ _ x.reached.moves.write_faults l.2.rose;
}

-- a whole record behind 8,000,000 others
pub too_many : (p : Protection) (a b c : Told) (n : ℕ) (taken : Taken) (encoder : Encoder ℕ) (e : Record) (before after : List ℕ) → 8000000 ≤ n → Passed p a b n taken encoder before → IsRecord e
    → Carries b c (record_bytes e) [] before after → HaltsAfter p a c after TooManyRecords
too_many p a b c n taken encoder e before after many x fits y =
    halts_after p a b c n taken encoder before after TooManyRecords x (record_refused p n taken.rtp b c e before after after TooManyRecords fits y (refusal-many p n taken.rtp e many) refl)

pub stops_after : (p : Protection) (a b c : Told) (n : ℕ) (taken : Taken) (encoder : Encoder ℕ) (before after : List ℕ) (fault : DumpFault) → Passed p a b n taken encoder before → StopsBehind n b c before after fault
    → HaltsAfter p a c after (Dump fault)
stops_after p a b c n taken encoder before after fault x s = halts_after p a b c n taken encoder before after (Dump fault) x (record_stopped p n taken.rtp b c before after fault s)

-- ---- what waited

put_then : (p : Protection) (a b c : Told) (es : List Record) (tail put lacking : List ℕ) → Reached p a b es tail (put ++ lacking) → Puts b c put → Reached p a c es tail lacking
put_then p a b c es tail put lacking h q =
    let t = records_bytes es ++ tail in
    record {
      fit = h.fit;
      accepted = h.accepted;
      put = h.put ++ put;
      moves = subst (λ l. Moves a c l (h.put ++ put)) (append-nil t) (Moves-trans a b c t [] h.put put h.moves q.moves);
      parts = h.parts ∙ sym (append_assoc h.put put lacking);
    }

-- it was given after a refusal
halts_put : (p : Protection) (a b c : Told) (waiting : List ℕ) (fault : ProtectFault) → HaltsAfter p a b waiting fault → PutsAll b c waiting → HaltsAfter p a c [] fault
halts_put p a b c waiting fault h q = record {
  records = h.records;
  tail = h.tail;
  reached = put_then p a b c h.records h.tail waiting [] (subst (Reached p a b h.records h.tail) (sym (append-nil waiting)) h.reached) q.puts;
  at = halts_later p (length h.records) (length (rtp_part h.records)) a b c h.tail waiting fault q.puts h.at;
}

halts_give : (p : Protection) (a c : Told) (fault : ProtectFault) → HaltsAfter p a c [] fault → RestGives p a c (Err fault)
halts_give p a c (TooWide n) h = h
halts_give p a c (Dump fault) h = h
halts_give p a c TooManyRecords h = h
halts_give p a c (TooLong i l) h = h
halts_give p a c TooManySlots h = h
halts_give p a c Write h = absurd (refusal-write p _ _ h.at.next h.at.why)
halts_give p a c Memory h = h

pub rest_halts : (p : Protection) (a b c : Told) (waiting : List ℕ) (fault : ProtectFault) → HaltsAfter p a b waiting fault → PutsAll b c waiting → RestGives p a c (Err fault)
rest_halts p a b c waiting fault h q = halts_give p a c fault (halts_put p a b c waiting fault h q)

-- or a write failed then
pub rest_failed : (p : Protection) (a b c : Told) (waiting after : List ℕ) (fault : ProtectFault) → HaltsAfter p a b waiting fault → FlushFailed waiting after b c → RestGives p a c (Err Write)
rest_failed p a b c waiting after fault h f = inl (record {
  records = h.records;
  tail = h.tail;
  lacking = f.failed.rest;
  reached = put_then p a b c h.records h.tail f.failed.put f.failed.rest (subst (Reached p a b h.records h.tail) f.failed.parts h.reached) f.failed.puts;
  short = f.failed.short;
  rose = Rose-earlier _ _ _ h.reached.moves.write_faults f.failed.rose;
})

-- all slots were given, or a write failed among the last ones
pub rest_all : (p : Protection) (a b c : Told) (taken : Taken) (encoder : Encoder ℕ) (waiting : List ℕ) (result : Result Protected ProtectFault) → TakesAll p a b taken encoder waiting
    → LastGives p b c taken encoder waiting result → RestGives p a c result
rest_all p a b c taken encoder waiting (Ok answer) x (same, g) =
    let es = x.passed.records in
    let r = x.passed.reached in
    let m = g es x.passed.knows in
    let text : all_text p es ≡ r.put ++ m.put =
    all_text-parts p es ∙ ap (λ l. l ++ flush_text p es p.deadline) r.parts ∙ append_assoc r.put waiting (flush_text p es p.deadline)
    ∙ ap (λ l. r.put ++ l) (m.parts ∙ append-nil m.put) in
    record {
      records = es;
      fit = r.fit;
      accepted = r.accepted;
      moves = subst (Moves a c (records_bytes es)) (sym text)
          (subst (λ l. Moves a c l (r.put ++ m.put)) (append-nil (records_bytes es) ∙ refl)
          (subst (λ l. Moves a c l (r.put ++ m.put)) (append-nil (records_bytes es ++ [])) (Moves-trans a b c (records_bytes es ++ []) [] r.put m.put r.moves m.puts.moves)));
      end = subst IsAtEnd (sym m.puts.left) x.end;
      answered = same ∙ ap (numbers_of p) x.passed.knows.counts;
    }
rest_all p a b c taken encoder waiting (Err fault) x (same, g) =
    let es = x.passed.records in
    let r = x.passed.reached in
    let m = g es x.passed.knows in
    let lost : LosesLast p a c = record {
      records = es;
      fit = r.fit;
      accepted = r.accepted;
      put = r.put ++ m.gives.put;
      lacking = m.lacking;
      moves = subst (λ l. Moves a c l (r.put ++ m.gives.put)) (append-nil (records_bytes es))
          (subst (λ l. Moves a c l (r.put ++ m.gives.put)) (append-nil (records_bytes es ++ [])) (Moves-trans a b c (records_bytes es ++ []) [] r.put m.gives.put r.moves m.gives.puts.moves));
      end = subst IsAtEnd (sym m.gives.puts.left) x.end;
      parts = all_text-parts p es ∙ ap (λ l. l ++ flush_text p es p.deadline) r.parts ∙ append_assoc r.put waiting (flush_text p es p.deadline)
          ∙ ap (λ l. r.put ++ l) m.gives.parts ∙ sym (append_assoc r.put m.gives.put m.lacking);
      short = m.short;
      rose = Rose-earlier _ _ _ r.moves.write_faults m.rose;
    } in
    subst (λ f. RestGives p a c (Err f)) (sym same) (inr lost)

-- ---- the end of the call

-- a preamble was read and given, and then this was taken and put
joined : (a b c d : Told) (pre t put : List ℕ) → Takes a b pre → Puts b c pre → Moves c d t put → Moves a d (pre ++ t) (pre ++ put)
joined a b c d pre t put x y m = Moves-trans a c d pre t pre put (subst (λ l. Moves a c l pre) (append-nil pre) (Moves-trans a b c pre [] [] pre x.moves y.moves)) m

-- what is due behind records none of which is refused
due_there : (p : Protection) (pre tail : List ℕ) (es : List Record) (front : Front) → IsPreamble pre → AllByRecursion IsRecord es → first_refused p es ≡ None → front_of tail ≡ front
    → ((e : Record) (rest : List ℕ) → front ≡ starts e rest → ⊥) → due_of p (reading_of (pre ++ (records_bytes es ++ tail))) ≡ due_behind p pre es front
due_there p pre tail es front h fit ok at none =
    ap (due_of p) (stopped_reading pre tail es h fit (no_record tail front at none))
    ∙ ap (due_by p pre (record { records = es; tail = tail })) ok
    ∙ ap (due_behind p pre es) at

text_there : (p : Protection) (pre tail : List ℕ) (es : List Record) → IsPreamble pre → AllByRecursion IsRecord es → first_refused p es ≡ None → ((e : Record) (rest : List ℕ) → front_of tail ≡ starts e rest → ⊥)
    → text_so_far p (reading_of (pre ++ (records_bytes es ++ tail))) ≡ pre ++ source_text p es
text_there p pre tail es h fit ok none =
    ap (text_so_far p) (stopped_reading pre tail es h fit none) ∙ ap (λ (o : Option (ℕ × ProtectFault)). pre ++ source_text p (before_refused es o)) ok

-- whatever is behind them
text_before : (p : Protection) (pre tail : List ℕ) (es : List Record) → IsPreamble pre → AllByRecursion IsRecord es → first_refused p es ≡ None
    → IsPrefix (pre ++ source_text p es) (text_so_far p (reading_of (pre ++ (records_bytes es ++ tail))))
text_before p pre tail es h fit ok =
    let b = reading_behind pre tail es h fit in
    subst (IsPrefix (pre ++ source_text p es)) (sym (ap (text_so_far p) b.is)) (accepted_front p pre es b.others ok)

-- a record behind them is refused
due_refused : (p : Protection) (pre rest : List ℕ) (es : List Record) (e : Record) (fault : ProtectFault) → IsPreamble pre → AllByRecursion IsRecord es → IsRecord e → first_refused p es ≡ None
    → refusal p (length es) (length (rtp_part es)) e ≡ Some fault → due_of p (reading_of (pre ++ (records_bytes (es ++ e ∷ []) ++ rest))) ≡ refused p pre es fault
due_refused p pre rest es e fault h fit fits ok why =
    let b = reading_behind pre rest (es ++ e ∷ []) h (All-append es e fit fits) in
    let all = (es ++ e ∷ []) ++ b.others in
    ap (due_of p) b.is
    ∙ ap (due_by p pre (record { records = all; tail = b.tail })) (first_refused-next p es b.others e fault ok why)
    ∙ ap (λ l. refused p pre l fault) (ap (take (length es)) (append_assoc es (e ∷ []) b.others) ∙ take_at es (e ∷ b.others) (length es) refl)

-- the input decided, at bytes that it goes on with
decided_by : (p : Protection) (a d : Told) (taken put rest : List ℕ) (answer : Result Protected ProtectFault) (text : List ℕ) (ended : Bool) → Moves a d taken put → IsLeft d.left rest
    → due_of p (reading_of (taken ++ rest)) ≡ record { answer = answer; text = text; at_end = ended } → text ≡ put → (ended ≡ true → rest ≡ []) → Ends (protecting_by p) a d answer
decided_by p a d taken put rest answer text ended m left e t over = record {
  cause = input;
  taken = taken;
  put = put;
  moves = m;
  unread = λ no. absurd (cc);
  caused = record {
    rest = rest;
    left = left;
    answered = ap (λ x. x.answer) e;
    given = ap (λ x. x.text) e ∙ t;
    ended = λ yes. over (sym (ap (λ x. x.at_end) e) ∙ yes);
  };
}

-- at the end of the input, whole
all_end : (p : Protection) (a b c d : Told) (pre : List ℕ) (answer : Protected) → IsPreamble pre → Takes a b pre → Puts b c pre → GivesAll p c d answer → Ends (protecting_by p) a d (Ok answer)
all_end p a b c d pre answer h x y g =
    let es = g.records in
    let taken = pre ++ records_bytes es in
    let same : (pre ++ records_bytes es) ++ [] ≡ pre ++ (records_bytes es ++ []) = append_assoc pre (records_bytes es) [] in
    subst (λ n. Ends (protecting_by p) a d (Ok n)) (sym g.answered)
    (decided_by p a d taken (pre ++ all_text p es) [] (Ok (numbers p es)) (protected p pre es) true (joined a b c d pre (records_bytes es) (all_text p es) x y g.moves) (at_end_left d.left g.end)
    (ap (λ l. due_of p (reading_of l)) same ∙ due_there p pre [] es ends h g.fit g.accepted (front_of-end [] refl) (λ e r i. cc)) refl (λ yes. refl))

-- at a record that isn't whole, at the input's end
break_end : (p : Protection) (a b c d : Told) (pre tail : List ℕ) (es : List Record) (break : _) → IsPreamble pre → Takes a b pre → Puts b c pre → Reached p c d es tail [] → IsAtEnd d.left → front_of tail ≡ breaks break
    → Ends (protecting_by p) a d (due_behind p pre es (breaks break)).answer
break_end p a b c d pre tail es break h x y r end at =
    let taken = pre ++ (records_bytes es ++ tail) in
    decided_by p a d taken (pre ++ r.put) [] (due_behind p pre es (breaks break)).answer (pre ++ source_text p es) false (joined a b c d pre (records_bytes es ++ tail) r.put x y r.moves) (at_end_left d.left end)
    (ap (λ l. due_of p (reading_of l)) (append-nil taken) ∙ due_there p pre tail es (breaks break) h r.fit r.accepted at (λ e q i. cc))
    (ap (λ l. pre ++ l) (r.parts ∙ append-nil r.put)) (λ no. absurd (cc))

-- at a length below 8, whatever follows
length_end : (p : Protection) (a b c d : Told) (pre tail : List ℕ) (es : List Record) → IsPreamble pre → Takes a b pre → Puts b c pre → Reached p c d es tail [] → length tail ≡ 8 → length_field tail < 8
    → Ends (protecting_by p) a d (Err (Dump (RecordLength (length es))))
length_end p a b c d pre tail es h x y r eight short =
    let left = some_left d.left in
    let rest = left.0 in
    let taken = pre ++ (records_bytes es ++ tail) in
    let same : (pre ++ (records_bytes es ++ tail)) ++ left.0 ≡ pre ++ (records_bytes es ++ (tail ++ left.0)) =
    append_assoc pre (records_bytes es ++ tail) rest ∙ ap (λ l. pre ++ l) (append_assoc (records_bytes es) tail rest) in
    let at : front_of (tail ++ left.0) ≡ breaks short_length =
    front_of-length (tail ++ rest) (omega (arith, length-append tail rest, eight)) (omega (arith, length_field-front tail rest (omega (arith, eight)), short)) in
    decided_by p a d taken (pre ++ r.put) rest (Err (Dump (RecordLength (length es)))) (pre ++ source_text p es) false (joined a b c d pre (records_bytes es ++ tail) r.put x y r.moves) left.1
    (ap (λ l. due_of p (reading_of l)) same ∙ due_there p pre (tail ++ rest) es (breaks short_length) h r.fit r.accepted at (λ e q i. cc))
    (ap (λ l. pre ++ l) (r.parts ∙ append-nil r.put)) (λ no. absurd (cc))

-- at a failed read
read_end : (p : Protection) (a b c d : Told) (pre tail : List ℕ) (es : List Record) → IsPreamble pre → Takes a b pre → Puts b c pre → Reached p c d es tail [] → (8 ≤ length tail → length tail < length_field tail)
    → Rose c.read_faults d.read_faults → Ends (protecting_by p) a d (Err (Dump Read))
read_end p a b c d pre tail es h x y r below rose = record {
  cause = read;
  taken = pre ++ (records_bytes es ++ tail);
  put = pre ++ r.put;
  moves = joined a b c d pre (records_bytes es ++ tail) r.put x y r.moves;
  unread = λ no. absurd (cc);
  caused = (
    refl,
    Rose-earlier a.read_faults c.read_faults d.read_faults (omega (arith, x.moves.read_faults, y.moves.read_faults)) rose,
    ap (λ l. pre ++ l) (sym (r.parts ∙ append-nil r.put)) ∙ sym (text_there p pre tail es h r.fit r.accepted (below_none tail below)),
    refl,
  );
}

dump_end : (p : Protection) (a b c d : Told) (pre tail : List ℕ) (es : List Record) (fault : DumpFault) → IsPreamble pre → Takes a b pre → Puts b c pre → Reached p c d es tail [] → StopsAt (length es) c d tail fault
    → Ends (protecting_by p) a d (Err (Dump fault))
dump_end p a b c d pre tail es (RecordHead i) h x y r s =
    subst (λ m. Ends (protecting_by p) a d (Err (Dump (RecordHead m)))) (sym s.0) (break_end p a b c d pre tail es short_head h x y r s.2 (front_of-head tail s.1.0 s.1.1))
dump_end p a b c d pre tail es (RecordLength i) h x y r s =
    subst (λ m. Ends (protecting_by p) a d (Err (Dump (RecordLength m)))) (sym s.0) (length_end p a b c d pre tail es h x y r s.1.0 s.1.1)
dump_end p a b c d pre tail es (Truncated i) h x y r s =
    subst (λ m. Ends (protecting_by p) a d (Err (Dump (Truncated m)))) (sym s.0) (break_end p a b c d pre tail es cut_body h x y r s.2 (front_of-body tail s.1.0 s.1.1))
dump_end p a b c d pre tail es Read h x y r s = read_end p a b c d pre tail es h x y r s.0 s.1
dump_end p a b c d pre tail es Preamble h x y r s = absurd s
dump_end p a b c d pre tail es NoRoom h x y r s = absurd s

-- at a record that is refused, whatever follows
refused_end : (p : Protection) (a b c d : Told) (pre tail : List ℕ) (es : List Record) (fault : ProtectFault) → IsPreamble pre → Takes a b pre → Puts b c pre → Reached p c d es tail []
    → IsRefusedNext p (length es) (length (rtp_part es)) tail fault → Ends (protecting_by p) a d (Err fault)
refused_end p a b c d pre tail es fault h x y r n =
    let left = some_left d.left in
    let rest = left.0 in
    let e = n.next in
    let taken = pre ++ (records_bytes es ++ tail) in
    let spelled : records_bytes es ++ tail ≡ records_bytes (es ++ n.next ∷ []) =
    ap (λ l. records_bytes es ++ l) (n.spelled ∙ sym (append-nil (record_bytes e))) ∙ sym (records_bytes-append es (e ∷ [])) in
    let same : (pre ++ (records_bytes es ++ tail)) ++ left.0 ≡ pre ++ (records_bytes (es ++ n.next ∷ []) ++ left.0) =
    ap (λ l. (pre ++ l) ++ rest) spelled ∙ append_assoc pre (records_bytes (es ++ e ∷ [])) rest in
    decided_by p a d taken (pre ++ r.put) rest (Err fault) (pre ++ source_text p es) false (joined a b c d pre (records_bytes es ++ tail) r.put x y r.moves) left.1
    (ap (λ l. due_of p (reading_of l)) same ∙ due_refused p pre rest es e fault h r.fit n.fits r.accepted n.why)
    (ap (λ l. pre ++ l) (r.parts ∙ append-nil r.put)) (λ no. absurd (cc))

-- a write failed within the source slots
source_lost : (p : Protection) (a b c d : Told) (pre : List ℕ) → IsPreamble pre → Takes a b pre → Puts b c pre → LosesAfter p c d → Ends (protecting_by p) a d (Err Write)
source_lost p a b c d pre h x y l =
    let es = l.records in
    let r = l.reached in
    let text = text_before p pre l.tail es h r.fit r.accepted in
    record {
      cause = write;
      taken = pre ++ (records_bytes es ++ l.tail);
      put = pre ++ r.put;
      moves = joined a b c d pre (records_bytes es ++ l.tail) r.put x y r.moves;
      unread = λ no. absurd (cc);
      caused = (
        refl,
        Rose-earlier a.write_faults c.write_faults d.write_faults (omega (arith, x.moves.write_faults, y.moves.write_faults)) l.rose,
        inl (record {
          rest = l.lacking ++ text.rest;
          parts = text.parts ∙ ap (λ k. (pre ++ k) ++ text.rest) r.parts ∙ ap (λ k. k ++ text.rest) (sym (append_assoc pre r.put l.lacking)) ∙ append_assoc (pre ++ r.put) l.lacking text.rest;
          more = omega (arith, length-append l.lacking text.rest, l.short);
        }),
      );
    }

-- or among the last slots
last_lost : (p : Protection) (a b c d : Told) (pre : List ℕ) → IsPreamble pre → Takes a b pre → Puts b c pre → LosesLast p c d → Ends (protecting_by p) a d (Err Write)
last_lost p a b c d pre h x y l =
    let es = l.records in
    let whole : due_of p (reading_of (pre ++ records_bytes l.records)) ≡ due_behind p pre l.records ends =
    ap (λ k. due_of p (reading_of (pre ++ k))) (sym (append-nil (records_bytes es))) ∙ due_there p pre [] es ends h l.fit l.accepted (front_of-end [] refl) (λ e q i. cc) in
    record {
      cause = write;
      taken = pre ++ records_bytes es;
      put = pre ++ l.put;
      moves = joined a b c d pre (records_bytes es) l.put x y l.moves;
      unread = λ no. absurd (cc);
      caused = (
        refl,
        Rose-earlier a.write_faults c.write_faults d.write_faults (omega (arith, x.moves.write_faults, y.moves.write_faults)) l.rose,
        inr (
          l.end,
          record {
            rest = l.lacking;
            parts = ap (λ k. k.text) whole ∙ ap (λ k. pre ++ k) l.parts ∙ sym (append_assoc pre l.put l.lacking);
            more = l.short;
          },
        ),
      );
    }

-- behind a preamble that was given
pub rest_end : (p : Protection) (a b c d : Told) (pre : List ℕ) (result : Result Protected ProtectFault) → IsPreamble pre → Takes a b pre → Puts b c pre → RestGives p c d result → Ends (protecting_by p) a d result
rest_end p a b c d pre (Ok answer) h x y r = all_end p a b c d pre answer h x y r
rest_end p a b c d pre (Err (TooWide n)) h x y r = refused_end p a b c d pre r.tail r.records (TooWide n) h x y r.reached r.at
rest_end p a b c d pre (Err (Dump fault)) h x y r = dump_end p a b c d pre r.tail r.records fault h x y r.reached r.at
rest_end p a b c d pre (Err TooManyRecords) h x y r = refused_end p a b c d pre r.tail r.records TooManyRecords h x y r.reached r.at
rest_end p a b c d pre (Err (TooLong i l)) h x y r = refused_end p a b c d pre r.tail r.records (TooLong i l) h x y r.reached r.at
rest_end p a b c d pre (Err TooManySlots) h x y r = refused_end p a b c d pre r.tail r.records TooManySlots h x y r.reached r.at
rest_end p a b c d pre (Err Write) h x y (inl l) = source_lost p a b c d pre h x y l
rest_end p a b c d pre (Err Write) h x y (inr l) = last_lost p a b c d pre h x y l
rest_end p a b c d pre (Err Memory) h x y r = refused_end p a b c d pre r.tail r.records Memory h x y r.reached r.at

-- a write failed within the preamble
pub preamble_lost : (p : Protection) (a b c : Told) (pre : List ℕ) → IsPreamble pre → Takes a b pre → WriteFailed b c pre → Ends (protecting_by p) a c (Err Write)
preamble_lost p a b c pre h x f =
    let text = text_before p pre [] [] h tt refl in
    record {
      cause = write;
      taken = pre;
      put = f.put;
      moves = subst (λ l. Moves a c l f.put) (append-nil pre) (Moves-trans a b c pre [] [] f.put x.moves f.puts.moves);
      unread = λ no. absurd (cc);
      caused = (
        refl,
        Rose-earlier _ _ _ x.moves.write_faults f.rose,
        inl (record {
          rest = f.rest ++ text.rest;
          parts = ap (λ l. text_so_far p (reading_of l)) (sym (append-nil pre)) ∙ text.parts ∙ ap (λ l. l ++ text.rest) (append-nil pre ∙ f.parts) ∙ append_assoc f.put f.rest text.rest;
          more = omega (arith, length-append f.rest text.rest, f.short);
        }),
      );
    }

-- no preamble
no_preamble_there : (p : Protection) (a b : Told) (taken rest : List ℕ) → Takes a b taken → IsLeft b.left rest → preamble_len (taken ++ rest) ≡ None → Ends (protecting_by p) a b (Err (Dump Preamble))
no_preamble_there p a b taken rest x left none =
    decided_by p a b taken [] rest (Err (Dump Preamble)) [] false x.moves left (ap (due_of p) (reading_of-none (taken ++ rest) none)) refl (λ no. absurd (cc))

pub preamble_end : (p : Protection) (a b : Told) (fault : DumpFault) → PreambleGives a b (Err fault) → Ends (protecting_by p) a b (Err (fault_of fault))
preamble_end p a b Preamble h = elim h.holds as (λ _. Ends (protecting_by p) a b (Err (Dump Preamble))) [
  | inl all ↦ (let left = some_left b.left in no_preamble_there p a b h.taken left.0 h.takes left.1 (all left.0))
  | inr end ↦ no_preamble_there p a b h.taken [] h.takes (at_end_left b.left end.1) (ap preamble_len (append-nil h.taken) ∙ end.0)
]
preamble_end p a b Read h = record {
  cause = read;
  taken = h.0.taken;
  put = [];
  moves = h.0.takes.moves;
  unread = λ no. absurd (cc);
  caused = (refl, h.1, sym (ap (text_so_far p) (reading_of-none h.0.taken h.0.holds)), refl);
}
preamble_end p a b NoRoom h = record {
  cause = memory;
  taken = [];
  put = [];
  moves = h.moves;
  unread = λ no. refl;
  caused = (refl, IsPrefix-nil [], refl);
}
preamble_end p a b (RecordHead i) h = absurd h
preamble_end p a b (RecordLength i) h = absurd h
preamble_end p a b (Truncated i) h = absurd h

-- ---- before anything is read

pub packet_is : (file : CodeFile) (size k k' r m : ℕ) → k ≡ file.code.k → k' ≡ file.code.k → r ≡ file.code.r → m ≡ width_of size k → 24 + (k' + r) * m ≡ packet_len (protection_of file size)
packet_is file size k k' r m ek ek' er em =
    ap (λ n. 24 + (n + r) * m) ek' ∙ ap (λ n. 24 + (file.code.k + n) * m) er ∙ ap (λ n. 24 + (file.code.k + file.code.r) * n) (em ∙ ap (width_of size) ek)

pub wide_end : (file : CodeFile) (size packet : ℕ) (a : Told) → packet ≡ packet_len (protection_of file size) → 65527 < packet → Ends (protecting file size) a a (Err (TooWide packet))
wide_end file size packet a e wide =
    let p = protection_of file size in
    let test : nat_lt 65527 (packet_len (protection_of file size)) ≡ true = lt-ltb 65527 (packet_len p) (omega (arith, e, wide)) in
    subst (λ b. Ends (protecting_within b p) a a (Err (TooWide packet))) (sym test)
    (subst (λ n. Ends (too_wide p) a a (Err (TooWide n))) (sym e) (Ends-at_once (Err (TooWide (packet_len p))) _ _ _ false a))

pub narrow_end : (file : CodeFile) (size packet : ℕ) (a b : Told) (result : Result Protected ProtectFault) → packet ≡ packet_len (protection_of file size) → packet ≤ 65527
    → Ends (protecting_by (protection_of file size)) a b result → Ends (protecting file size) a b result
narrow_end file size packet a b result e narrow x =
    let p = protection_of file size in
    let test : nat_lt 65527 (packet_len (protection_of file size)) ≡ false = le-ltb 65527 (packet_len p) (omega (arith, e, narrow)) in
    subst (λ t. Ends (protecting_within t p) a b result) (sym test) x

pub no_memory_end : (file : CodeFile) (size packet : ℕ) (a : Told) → packet ≡ packet_len (protection_of file size) → packet ≤ 65527 → Ends (protecting file size) a a (Err Memory)
no_memory_end file size packet a e narrow = narrow_end file size packet a a (Err Memory) e narrow (Ends-no_memory (protecting_by (protection_of file size)) a refl)
