-- Repairing is prompt: what is due is written before more is read.
use Rattle.std.proofs.Common.{◌≡◌, inl, inr, ℕ, zero as naught, suc, ◌+◌, ◌≤◌, Option, None, Some, List, [], ◌∷◌, ◌++◌, length, take, drop, Result, Ok, Err, refl, sym, ap, ◌∙◌, subst, arith, append-nil, append_assoc, length-append, length-drop, length-take, take-append-drop, take_at, drop_at}
use Rattle.std.specs.Io.KnownBytes.{Consumes}
use Rattle.std.specs.List.{AllByRecursion}
use Rattle.std.proofs.lemmas.Bool.{cases_lt}
use Rattle.std.proofs.lemmas.List.{append_cancel_left, take-append-le}
use Rattle.std.proofs.lemmas.Option.{none-some, same_Some}
use Rattle.sc_outside.specs.declared.journal.Move.{Move}
use Rattle.sc_outside.specs.Journal.{bytes_read, bytes_written, Logs}
use Rattle.sc_outside.specs.Port.{Told, Moves, Takes, Puts}
use Rattle.sc_outside.specs.Whole.{WriteFailed}
use Rattle.sc_outside.proofs.MovesLaws.{Moves-none, Moves-trans}
use Rattle.sc_rtpdump.specs.declared.fault.DumpFault.{DumpFault}
use Rattle.sc_rtpdump.specs.declared.fault.DumpFault.TheVariants.{Preamble, RecordHead, RecordLength, Truncated, Read, Memory as NoRoom}
use Rattle.sc_rtpdump.specs.Head.{StopsAt}
use Rattle.sc_rtpdump.specs.Preamble.{IsPreamble, preamble_len, PreambleGives}
use Rattle.sc_rtpdump.specs.Record.{Record, IsRecord, record_bytes, length_field, short_head, short_length, cut_body, Front, ends, breaks, starts, front_of}
use Rattle.sc_rtpdump.specs.Capture.{records_bytes, parts_within, parts_of, reads, reading_of}
use Rattle.sc_rtpdump.proofs.CaptureLaws.{after_front, front_of-end, front_of-head, front_of-length, front_of-body, length-record_bytes, reading_of-preamble, reading_of-none}
use Rattle.sc_rtpdump.proofs.GrowLaws.{found, parts_of-grows, begins_with}
use Rattle.sc_rtpdump.proofs.PreambleLaws.{preamble_len-is}
use Rattle.sc_rtpdump.proofs.ThinLaws.{records_bytes-append}
use Rattle.sc_rtpdump.proofs.ThinSteps.{All-append, stopped_reading, no_record, broken, below_none}
use Rattle.sc_code.specs.declared.code.CodeFile.{CodeFile}
use Rattle.sc_slots.specs.Prompt.{IsWrittenBefore}
use Rattle.sc_slots.proofs.PromptLaws.{IsWrittenBefore-so_far, IsWrittenBefore-unread, IsWrittenBefore-less}
use Rattle.sc_repair.specs.declared.repair.RepairEnd.{RepairEnd}
use Rattle.sc_repair.specs.declared.repair.RepairEnd.TheVariants.{Dump, TooManyRecords, WrongCode, BadShape, TooManySlots, Unfit, Clash, BadBlock, Write, Memory}
use Rattle.sc_repair.specs.declared.repair.Repaired.{Repaired}
use Rattle.sc_repair.specs.Prompt.{IsPrompt}
use Rattle.sc_repair.specs.Repairing.{Refusal, values_text, first_refused, values_so_far, text_by, records_text, text_so_far, repairing}
use Rattle.sc_repair.specs.RepairSteps.{HaltsAt, Stood, HaltsAfter, LastGives, EndsWith, RestGives}
use Rattle.sc_repair.proofs.Growth.{first_refused-earlier}
use Rattle.sc_repair.proofs.EndSteps.{joined}

-- ---- journals

-- Between two moments, where the journal is told: each read that takes a byte after the first r has before it writes of at
-- least n.
abbrev pub Mark : Told → Told → ℕ → ℕ → Type 0
Mark old new r n = (journal moves : List Move) → old.journal ≡ Some journal → new.journal ≡ Some (journal ++ moves) → IsWrittenBefore moves r n

-- what a journal grew by, in two parts
record InParts (moves : List Move) (read written : ℕ) : Type 0 where
  front : List Move
  back : List Move
  parts : moves ≡ front ++ back
  front_read : bytes_read front ≡ read
  front_written : bytes_written front ≡ written

in_parts : (a m d : Option (List Move)) (journal moves : List Move) (r w s v : ℕ) → Logs a m r w → Logs m d s v → a ≡ Some journal → d ≡ Some (journal ++ moves) → InParts moves r w
in_parts None m d journal moves r w s v h g e f = absurd (none-some journal e)
in_parts (Some xs) None d journal moves r w s v h g e f = absurd h
in_parts (Some xs) (Some ys) None journal moves r w s v h g e f = absurd g
in_parts (Some xs) (Some ys) (Some zs) journal moves r w s v h g e f =
    let begin : xs ≡ journal = same_Some xs journal e in
    let all : zs ≡ journal ++ moves = same_Some zs (journal ++ moves) f in
    record {
      front = h.0;
      back = g.0;
      parts = append_cancel_left journal moves (h.0 ++ g.0) (sym all ∙ g.1 ∙ ap (λ l. l ++ g.0) h.1 ∙ append_assoc xs h.0 g.0 ∙ ap (λ l. l ++ (h.0 ++ g.0)) begin);
      front_read = h.2;
      front_written = h.3;
    }

in_all : (a d : Option (List Move)) (journal moves : List Move) (r w : ℕ) → Logs a d r w → a ≡ Some journal → d ≡ Some (journal ++ moves) → bytes_read moves ≡ r
in_all None d journal moves r w h e f = absurd (none-some journal e)
in_all (Some xs) None journal moves r w h e f = absurd h
in_all (Some xs) (Some zs) journal moves r w h e f =
    let begin : xs ≡ journal = same_Some xs journal e in
    let all : zs ≡ journal ++ moves = same_Some zs (journal ++ moves) f in
    ap bytes_read (append_cancel_left journal moves h.0 (sym all ∙ h.1 ∙ ap (λ l. l ++ h.0) begin)) ∙ h.2

-- at a moment by which so much was taken and so much was put
Mark-moment : (a m d : Told) (t p u q : List ℕ) → Moves a m t p → Moves m d u q → Mark a d (length t) (length p)
Mark-moment a m d t p u q x y journal moves e f =
    let s = in_parts a.journal m.journal d.journal journal moves (length t) (length p) (length u) (length q) x.journal y.journal e f in
    subst (λ (l : List Move). IsWrittenBefore l (length t) (length p)) (sym s.parts) (IsWrittenBefore-so_far s.front s.back (length t) (length p) (omega (arith, s.front_read)) (omega (arith, s.front_written)))

-- no byte was taken after these
Mark-unread : (a d : Told) (t p : List ℕ) (n : ℕ) → Moves a d t p → Mark a d (length t) n
Mark-unread a d t p n x journal moves e f =
    IsWrittenBefore-unread moves (length t) n (omega (arith, in_all a.journal d.journal journal moves (length t) (length p) x.journal e f))

Mark-less : (a d : Told) (r s n m : ℕ) → r ≤ s → m ≤ n → Mark a d r n → Mark a d s m
Mark-less a d r s n m le less h journal moves e f = IsWrittenBefore-less moves r s n m le less (h journal moves e f)

Mark-nothing : (a d : Told) (r : ℕ) → Mark a d r 0
Mark-nothing a d r journal moves e f before after taken parts some past = omega arith

-- ---- the bytes of the records that are found

found_size : (bytes : List ℕ) (e : Record) (rest : List ℕ) → front_of bytes ≡ starts e rest → length (record_bytes e) + length rest ≡ length bytes
found_size bytes e rest h =
    let f = found bytes e rest h in
    let n = length_field bytes in
    omega (arith, length-record_bytes e, ap (λ (r : Record). length r.body) f.is, length-drop 8 (take n bytes), length-take n bytes, ap length f.behind, length-drop n bytes, f.eight, f.least, f.within)

within_by : (n : ℕ) (bytes : List ℕ) (front : Front) → front_of bytes ≡ front → ((rest : List ℕ) → length (records_bytes (parts_within n rest).records) ≤ length rest)
    → length (records_bytes (after_front n bytes front).records) ≤ length bytes
within_by n bytes ends at next = omega arith
within_by n bytes (breaks break) at next = omega arith
within_by n bytes (starts e rest) at next = omega (arith, length-append (record_bytes e) (records_bytes (parts_within n rest).records), next rest, found_size bytes e rest at)

within_size : (n : ℕ) (bytes : List ℕ) → length (records_bytes (parts_within n bytes).records) ≤ length bytes
within_size naught bytes = omega arith
within_size (suc n) bytes = within_by n bytes (front_of bytes) refl (within_size n)

parts_size : (bytes : List ℕ) → length (records_bytes (parts_of bytes).records) ≤ length bytes
unfolding parts_of
parts_size bytes = within_size (length bytes) bytes

-- ---- the fronts of what was taken

-- the two preambles of bytes that begin with both are the same, and so is what follows them
record SamePreamble (pre other body rest : List ℕ) : Type 0 where
  same : other ≡ pre
  behind : body ≡ rest

same_preamble : (pre other body rest : List ℕ) → IsPreamble pre → IsPreamble other → pre ++ body ≡ other ++ rest → SamePreamble pre other body rest
same_preamble pre other body rest h g e =
    let both : Some (length pre) ≡ Some (length other) = sym (preamble_len-is pre body h) ∙ ap preamble_len e ∙ preamble_len-is other rest g in
    let size : length pre ≡ length other = same_Some (length pre) (length other) both in
    record {
      same = sym (take_at other rest (length pre) (sym size)) ∙ ap (take (length pre)) (sym e) ∙ take_at pre body (length pre) refl;
      behind = sym (drop_at pre body (length pre) refl) ∙ ap (drop (length pre)) e ∙ drop_at other rest (length pre) (sym size);
    }

some_begins : (pre rest all : List ℕ) → IsPreamble pre → all ≡ pre ++ rest → preamble_len all ≡ None → ⊥
some_begins pre rest all h e none = none-some (length pre) (sym none ∙ ap preamble_len e ∙ preamble_len-is pre rest h)

consumed : (old new : Option (List ℕ)) (taken all : List ℕ) → Consumes old new taken → old ≡ Some all → (left : List ℕ) × (all ≡ taken ++ left)
consumed None new taken all h e = absurd (none-some all e)
consumed (Some xs) None taken all h e = absurd h
consumed (Some xs) (Some ys) taken all h e = (ys, sym (same_Some xs all e) ∙ h)

module _ (file : CodeFile) where
  -- for each front of what was taken
  abbrev RunsPrompt : Told → Told → List ℕ → Type 0
  RunsPrompt a d taken = (first rest : List ℕ) → taken ≡ first ++ rest → Mark a d (length first) (length ((repairing file).so_far first))

  -- where these bytes were taken, the fronts of the input are those of what was taken, or no less
  prompt_taken : (a d : Told) (taken put : List ℕ) → Moves a d taken put → RunsPrompt a d taken → IsPrompt (repairing file) a d
  prompt_taken a d taken put m runs journal moves first rest ej ed el =
      let c = consumed a.left d.left taken (first ++ rest) m.left el in
      let n = length first in
      elim (cases_lt (length taken) (length first)) [
        | inl past ↦ Mark-less a d (length taken) n _ _ (omega arith) (omega arith) (Mark-unread a d taken put (length ((repairing file).so_far first)) m) journal moves ej ed
        | inr within ↦ (
            let front : take (length first) taken ≡ first = sym (take-append-le n taken c.0 within) ∙ ap (take n) (sym c.1) ∙ take_at first rest n refl in
            let split : taken ≡ first ++ drop (length first) taken = sym (take-append-drop n taken) ∙ ap (λ l. l ++ drop n taken) front in
            runs first (drop n taken) split journal moves ej ed)
      ]

  -- nothing was taken
  prompt_unread : (a d : Told) (put : List ℕ) → Moves a d [] put → IsPrompt (repairing file) a d
  prompt_unread a d put m journal moves first rest ej ed el =
      Mark-less a d 0 (length first) _ _ (omega arith) (omega arith) (Mark-unread a d [] put (length ((repairing file).so_far first)) m) journal moves ej ed

  -- what was taken begins with no preamble
  prompt_none : (a d : Told) (taken put : List ℕ) → Moves a d taken put → preamble_len taken ≡ None → IsPrompt (repairing file) a d
  prompt_none a d taken put m none =
      prompt_taken a d taken put m (λ first rest e. subst (λ l. Mark a d (length first) (length l)) (sym (nothing_due first rest e (preamble_len first) refl)) (Mark-nothing a d (length first)))
    where
      nothing_due : (first rest : List ℕ) → taken ≡ first ++ rest → (place : Option ℕ) → preamble_len first ≡ place → text_so_far file (reading_of first) ≡ []
      nothing_due first rest e None at = ap (text_so_far file) (reading_of-none first at)
      nothing_due first rest e (Some n) at =
          let b = begins_with first n at in
          absurd (some_begins b.preamble (b.rest ++ rest) taken b.is (e ∙ ap (λ l. l ++ rest) b.parts ∙ append_assoc b.preamble b.rest rest) none)

  -- ---- a preamble, whole records, and what begins with none

  module _ (a d : Told) (pre t : List ℕ) (es : List Record) (h : IsPreamble pre) (fit : AllByRecursion IsRecord es) (none : (e : Record) (rest : List ℕ) → front_of t ≡ starts e rest → ⊥)
      (each : (i : ℕ) → i ≤ length es → Mark a d (length (pre ++ records_bytes (take i es))) (length (pre ++ records_text file (take i es)))) where
    at_front : (first rest other behind : List ℕ) → pre ++ (records_bytes es ++ t) ≡ first ++ rest → IsPreamble other → first ≡ other ++ behind → Mark a d (length first) (length (text_so_far file (reading_of first)))
    at_front first rest other behind e is parts =
        let s = same_preamble pre other (records_bytes es ++ t) (behind ++ rest) h is (e ∙ ap (λ l. l ++ rest) parts ∙ append_assoc other behind rest) in
        let recs = (parts_of behind).records in
        let more = parts_of-grows behind rest in
        let both : reads pre (parts_of (records_bytes es ++ t)) ≡ reads pre (record { records = es; tail = t }) =
        sym (reading_of-preamble pre (records_bytes es ++ t) h) ∙ stopped_reading pre t es h fit none in
        let found_all : parts_of (records_bytes es ++ t) ≡ record { records = es; tail = t } = cc in
        let all : es ≡ (parts_of behind).records ++ more.0 = sym (ap (λ p. p.records) found_all) ∙ ap (λ l. (parts_of l).records) s.behind ∙ more.1 in
        let i = length recs in
        let front : take (length (parts_of behind).records) es ≡ (parts_of behind).records = ap (take i) all ∙ take_at recs more.0 i refl in
        let due : text_so_far file (reading_of first) ≡ pre ++ records_text file (parts_of behind).records =
        ap (λ l. text_so_far file (reading_of l)) parts ∙ ap (text_so_far file) (reading_of-preamble other behind is) ∙ ap (λ l. l ++ records_text file recs) s.same in
        let mark = subst (λ (l : List Record). Mark a d (length (pre ++ records_bytes l)) (length (pre ++ records_text file l))) front (each i (omega (arith, ap length all, length-append recs more.0))) in
        subst (λ l. Mark a d (length first) (length l)) (sym due)
        (Mark-less a d (length (pre ++ records_bytes recs)) (length first) _ _
        (omega (arith, length-append pre (records_bytes recs), ap length parts, length-append other behind, ap length s.same, parts_size behind)) (omega arith) mark)

    at_place : (first rest : List ℕ) (place : Option ℕ) → preamble_len first ≡ place → pre ++ (records_bytes es ++ t) ≡ first ++ rest → Mark a d (length first) (length (text_so_far file (reading_of first)))
    at_place first rest None at e = subst (λ l. Mark a d (length first) (length l)) (sym (ap (text_so_far file) (reading_of-none first at))) (Mark-nothing a d (length first))
    at_place first rest (Some n) at e = let b = begins_with first n at in at_front first rest b.preamble b.rest e b.is b.parts

    prompt_there : (put : List ℕ) → Moves a d (pre ++ (records_bytes es ++ t)) put → IsPrompt (repairing file) a d
    prompt_there put m = prompt_taken a d (pre ++ (records_bytes es ++ t)) put m (λ first rest e. at_place first rest (preamble_len first) refl e)

  no_front : (e : Record) (rest : List ℕ) → front_of [] ≡ starts e rest → ⊥
  no_front = no_record [] ends (front_of-end [] refl) (λ e r i. cc)

  -- the reading of a record stopped: no whole one was taken
  stopped_none : (index : ℕ) (m d : Told) (tail : List ℕ) (fault : DumpFault) → StopsAt index m d tail fault → (e : Record) (rest : List ℕ) → front_of tail ≡ starts e rest → ⊥
  stopped_none index m d tail (RecordHead i) s = broken tail short_head (front_of-head tail s.1.0 s.1.1)
  stopped_none index m d tail (RecordLength i) s = broken tail short_length (front_of-length tail (omega (arith, s.1.0)) s.1.1)
  stopped_none index m d tail (Truncated i) s = broken tail cut_body (front_of-body tail s.1.0 s.1.1)
  stopped_none index m d tail Read s = below_none tail s.0
  stopped_none index m d tail Preamble s = absurd s
  stopped_none index m d tail NoRoom s = absurd s

  module _ (a b c : Told) (pre : List ℕ) (h : IsPreamble pre) (x : Takes a b pre) (y : Puts b c pre) where
    module _ (m d : Told) (es : List Record) (fit : AllByRecursion IsRecord es) (ok : first_refused file es ≡ None) (reached : Moves c m (records_bytes es) (values_text (values_so_far file es)))
        (stood : (i : ℕ) → i ≤ length es → Stood file es i c m) (t put : List ℕ) (then : Moves m d t put) where
      moved : Moves a d (pre ++ (records_bytes es ++ t)) (pre ++ (values_text (values_so_far file es) ++ put))
      moved = joined a b c d pre (records_bytes es ++ t) _ x y (Moves-trans c m d (records_bytes es) t (values_text (values_so_far file es)) put reached then)

      each_stood : (i : ℕ) → i ≤ length es → Mark a d (length (pre ++ records_bytes (take i es))) (length (pre ++ records_text file (take i es)))
      each_stood i le =
          let s = stood i le in
          let some = take i es in
          let fine : first_refused file (take i es) ≡ None = first_refused-earlier file some (drop i es) (ap (first_refused file) (take-append-drop i es) ∙ ok) in
          subst (λ (o : Option Refusal). Mark a d (length (pre ++ records_bytes (take i es))) (length (pre ++ text_by file (take i es) o))) (sym fine)
          (Mark-moment a s.mid d (pre ++ records_bytes some) (pre ++ values_text (values_so_far file some)) (s.taken ++ t) (s.put ++ put)
          (joined a b c s.mid pre (records_bytes some) _ x y s.before) (Moves-trans s.mid m d s.taken t s.put put s.after then))

      -- no whole record was taken behind them
      none_more : ((e : Record) (rest : List ℕ) → front_of t ≡ starts e rest → ⊥) → IsPrompt (repairing file) a d
      none_more none = prompt_there a d pre t es h fit none each_stood _ moved

      -- one was
      one_more : (e : Record) → IsRecord e → t ≡ record_bytes e → IsPrompt (repairing file) a d
      one_more e fits is =
          let all = es ++ e ∷ [] in
          let bytes : records_bytes es ++ t ≡ records_bytes (es ++ e ∷ []) =
          ap (λ l. records_bytes es ++ l) (is ∙ sym (append-nil (record_bytes e))) ∙ sym (records_bytes-append es (e ∷ [])) in
          let whole : Moves a d (pre ++ records_bytes (es ++ e ∷ [])) (pre ++ (values_text (values_so_far file es) ++ put)) = subst (λ l. Moves a d (pre ++ l) (pre ++ (values_text (values_so_far file es) ++ put))) bytes moved in
          prompt_there a d pre [] all h (All-append es e fit fits) no_front (λ i le. elim (cases_lt (length es) i) [
            | inl last ↦ (
                let same : length (es ++ e ∷ []) ≡ i = omega (arith, length-append es (e ∷ []), le) in
                let here : take i (es ++ e ∷ []) ≡ es ++ e ∷ [] = ap (λ n. take n all) (sym same) ∙ ap (take (length all)) (sym (append-nil all)) ∙ take_at all [] (length all) refl in
                subst (λ (l : List Record). Mark a d (length (pre ++ records_bytes l)) (length (pre ++ records_text file l))) (sym here) (Mark-unread a d (pre ++ records_bytes all) _ _ whole))
            | inr earlier ↦ subst (λ (l : List Record). Mark a d (length (pre ++ records_bytes l)) (length (pre ++ records_text file l))) (sym (take-append-le i es (e ∷ []) earlier)) (each_stood i earlier)
          ]) _ (subst (λ l. Moves a d (pre ++ l) (pre ++ (values_text (values_so_far file es) ++ put))) (sym (append-nil (records_bytes all))) whole)

    halts_prompt : (m d : Told) (es : List Record) → AllByRecursion IsRecord es → first_refused file es ≡ None → Moves c m (records_bytes es) (values_text (values_so_far file es)) → ((i : ℕ) → i ≤ length es → Stood file es i c m)
        → (fault : RepairEnd) → HaltsAt file es m d fault → IsPrompt (repairing file) a d
    halts_prompt m d es fit ok reached stood (Dump fault) s = none_more m d es fit ok reached stood s.tail [] s.moves (stopped_none (length es) m d s.tail fault s.at)
    halts_prompt m d es fit ok reached stood Write s = one_more m d es fit ok reached stood (record_bytes s.next) s.put s.moves s.next s.fits refl
    halts_prompt m d es fit ok reached stood Memory s = one_more m d es fit ok reached stood (record_bytes s.next) [] s.moves s.next s.fits refl
    halts_prompt m d es fit ok reached stood TooManyRecords s = one_more m d es fit ok reached stood (record_bytes s.next) s.more s.moves s.next s.fits refl
    halts_prompt m d es fit ok reached stood (WrongCode i) s = one_more m d es fit ok reached stood (record_bytes s.next) s.more s.moves s.next s.fits refl
    halts_prompt m d es fit ok reached stood (BadShape i) s = one_more m d es fit ok reached stood (record_bytes s.next) s.more s.moves s.next s.fits refl
    halts_prompt m d es fit ok reached stood (TooManySlots i) s = one_more m d es fit ok reached stood (record_bytes s.next) s.more s.moves s.next s.fits refl
    halts_prompt m d es fit ok reached stood (Unfit why) s = one_more m d es fit ok reached stood (record_bytes s.next) s.more s.moves s.next s.fits refl
    halts_prompt m d es fit ok reached stood (Clash i) s = one_more m d es fit ok reached stood (record_bytes s.next) s.more s.moves s.next s.fits refl
    halts_prompt m d es fit ok reached stood (BadBlock i) s = one_more m d es fit ok reached stood (record_bytes s.next) s.more s.moves s.next s.fits refl

    last_moves : (es : List Record) (m d : Told) (result : Result Repaired RepairEnd) → LastGives file es m d result → (put : List ℕ) × Moves m d [] put
    last_moves es m d (Ok answer) g = (g.more, g.moves)
    last_moves es m d (Err Write) g = (g.put, g.moves)
    last_moves es m d (Err (BadBlock t)) g = (g.more, g.moves)
    last_moves es m d (Err (Dump fault)) g = absurd g
    last_moves es m d (Err Memory) g = absurd g
    last_moves es m d (Err TooManyRecords) g = absurd g
    last_moves es m d (Err (WrongCode i)) g = absurd g
    last_moves es m d (Err (BadShape i)) g = absurd g
    last_moves es m d (Err (TooManySlots i)) g = absurd g
    last_moves es m d (Err (Unfit why)) g = absurd g
    last_moves es m d (Err (Clash i)) g = absurd g

    halted_prompt : (d : Told) (fault : RepairEnd) → HaltsAfter file c d fault → IsPrompt (repairing file) a d
    halted_prompt d fault r = halts_prompt r.mid d r.records r.reached.fit r.reached.knows.accepted r.reached.moves r.reached.stood fault r.at

    ended_prompt : (d : Told) (result : Result Repaired RepairEnd) → EndsWith file c d result → IsPrompt (repairing file) a d
    ended_prompt d result r =
        let last = last_moves r.records r.mid d result r.last in
        none_more r.mid d r.records r.reached.fit r.reached.knows.accepted r.reached.moves r.reached.stood [] last.0 last.1 no_front

    -- behind a preamble that was given
    pub rest_prompt : (d : Told) (result : Result Repaired RepairEnd) → RestGives file c d result → IsPrompt (repairing file) a d
    rest_prompt d (Ok answer) r = ended_prompt d (Ok answer) r
    rest_prompt d (Err fault) (inl r) = halted_prompt d fault r
    rest_prompt d (Err fault) (inr r) = ended_prompt d (Err fault) r

  -- a write failed within the preamble
  pub preamble_lost_prompt : (a b c : Told) (pre : List ℕ) → IsPreamble pre → Takes a b pre → WriteFailed b c pre → IsPrompt (repairing file) a c
  preamble_lost_prompt a b c pre h x f =
      let moved : Moves a c (pre ++ []) f.put = Moves-trans a b c pre [] [] f.put x.moves f.puts.moves in
      prompt_there a c pre [] [] h tt no_front (λ i le. first_mark i le moved) f.put moved
    where
      first_mark : (i : ℕ) → i ≤ 0 → Moves a c (pre ++ []) f.put → Mark a c (length (pre ++ records_bytes (take i []))) (length (pre ++ records_text file (take i [])))
      first_mark i le m = let zero : 0 ≡ i = omega arith in subst (λ n. Mark a c (length (pre ++ records_bytes (take n []))) (length (pre ++ records_text file (take n [])))) zero (Mark-unread a c (pre ++ []) f.put _ m)

  -- no preamble
  pub preamble_prompt : (a b : Told) (fault : DumpFault) → PreambleGives a b (Err fault) → IsPrompt (repairing file) a b
  preamble_prompt a b Preamble h = elim h.holds as (λ _. IsPrompt (repairing file) a b) [
    | inl all ↦ prompt_none a b h.taken [] h.takes.moves (ap preamble_len (sym (append-nil h.taken)) ∙ all [])
    | inr end ↦ prompt_none a b h.taken [] h.takes.moves end.0
  ]
  preamble_prompt a b Read h = prompt_none a b h.0.taken [] h.0.takes.moves h.0.holds
  preamble_prompt a b NoRoom h = prompt_unread a b [] h.moves
  preamble_prompt a b (RecordHead i) h = absurd h
  preamble_prompt a b (RecordLength i) h = absurd h
  preamble_prompt a b (Truncated i) h = absurd h

  -- before anything is read
  pub no_memory_prompt : (a : Told) → IsPrompt (repairing file) a a
  no_memory_prompt a = prompt_unread a a [] (Moves-none a)
