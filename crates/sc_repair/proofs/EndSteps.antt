-- How the last of its steps ends the call that repairs.
use Rattle.std.proofs.Common.{◌≡◌, inl, inr, ℕ, ◌<◌, ◌≤◌, Bool, true, false, Option, None, Some, List, [], ◌∷◌, ◌++◌, length, Result, Ok, Err, refl, sym, ap, ◌∙◌, subst, arith, append-nil, append_assoc, length-append}
use Rattle.std.specs.Io.KnownBytes.{IsAtEnd}
use Rattle.std.specs.List.{AllByRecursion}
use Rattle.sc_outside.specs.Ends.{IsLeft, input, read, write, memory, Ends}
use Rattle.sc_outside.specs.Faults.{Rose}
use Rattle.sc_outside.specs.Port.{Told, Moves, Takes, Puts}
use Rattle.sc_outside.specs.Whole.{WriteFailed}
use Rattle.sc_outside.proofs.EndsLaws.{IsPrefix-nil, some_left, Ends-no_memory}
use Rattle.sc_outside.proofs.FaultsLaws.{Rose-earlier}
use Rattle.sc_outside.proofs.MovesLaws.{Moves-trans}
use Rattle.sc_rtpdump.specs.declared.fault.DumpFault.{DumpFault}
use Rattle.sc_rtpdump.specs.declared.fault.DumpFault.TheVariants.{Preamble, RecordHead, RecordLength, Truncated, Read, Memory as NoRoom}
use Rattle.sc_rtpdump.specs.Head.{StopsAt}
use Rattle.sc_rtpdump.specs.Preamble.{IsPreamble, preamble_len, PreambleGives}
use Rattle.sc_rtpdump.specs.Record.{Record, IsRecord, record_bytes, length_field, Break, short_head, short_length, cut_body, Front, ends, breaks, starts, front_of}
use Rattle.sc_rtpdump.specs.Capture.{records_bytes, reading_of}
use Rattle.sc_rtpdump.proofs.CaptureLaws.{front_of-end, front_of-head, front_of-length, front_of-body, length_field-front, reading_of-none}
use Rattle.sc_rtpdump.proofs.ThinLaws.{records_bytes-append}
use Rattle.sc_rtpdump.proofs.ThinSteps.{All-append, stopped_reading, no_record, below_none, at_end_left, reading_behind}
use Rattle.sc_code.specs.declared.code.CodeFile.{CodeFile}
use Rattle.sc_repair.specs.declared.repair.RepairEnd.{RepairEnd}
use Rattle.sc_repair.specs.declared.repair.RepairEnd.TheVariants.{Dump, TooManyRecords, WrongCode, BadShape, TooManySlots, Unfit, Clash, BadBlock, Write, Memory}
use Rattle.sc_repair.specs.declared.repair.Repaired.{Repaired}
use Rattle.sc_repair.specs.Repairing.{Refusal, values_text, bad_among, slots_in, refusal, first_refused, values_so_far, last_values, numbers, refused, due_at_end, due_behind, due_by, due_of, text_by, text_so_far, preamble_of, repairing}
use Rattle.sc_repair.specs.RepairSteps.{due_text, due_after, LosesRecord, LacksMemory, RefusesRecord, HaltsAt, HaltsAfter, GivesLast, RefusesLast, LosesLast, LastGives, EndsWith, RestGives, fault_of}
use Rattle.sc_repair.proofs.Growth.{first_refused-stays}
use Rattle.sc_repair.proofs.JobLaws.{push-refused}

-- a preamble was read and given, and then this was taken and put
pub joined : (a b c d : Told) (pre t put : List ℕ) → Takes a b pre → Puts b c pre → Moves c d t put → Moves a d (pre ++ t) (pre ++ put)
joined a b c d pre t put x y m = Moves-trans a c d pre t pre put (subst (λ l. Moves a c l pre) (append-nil pre) (Moves-trans a b c pre [] [] pre x.moves y.moves)) m

module _ (file : CodeFile) where
  -- what is put out of records none of which is refused
  abbrev so_far : List Record → List ℕ
  so_far records = values_text (values_so_far file records)

  -- what is due behind records none of which is refused
  due_there : (pre tail : List ℕ) (es : List Record) (front : Front) → IsPreamble pre → AllByRecursion IsRecord es → first_refused file es ≡ None → front_of tail ≡ front
      → ((e : Record) (rest : List ℕ) → front ≡ starts e rest → ⊥) → due_of file (reading_of (pre ++ (records_bytes es ++ tail))) ≡ due_behind file pre es front
  due_there pre tail es front h fit ok at none =
      ap (due_of file) (stopped_reading pre tail es h fit (no_record tail front at none))
      ∙ ap (due_by file pre (record { records = es; tail = tail })) ok
      ∙ ap (due_behind file pre es) at

  text_there : (pre tail : List ℕ) (es : List Record) → IsPreamble pre → AllByRecursion IsRecord es → ((e : Record) (rest : List ℕ) → front_of tail ≡ starts e rest → ⊥)
      → text_so_far file (reading_of (pre ++ (records_bytes es ++ tail))) ≡ pre ++ text_by file es (first_refused file es)
  text_there pre tail es h fit none = ap (text_so_far file) (stopped_reading pre tail es h fit none)

  no_front : (e : Record) (rest : List ℕ) → front_of [] ≡ starts e rest → ⊥
  no_front = no_record [] ends (front_of-end [] refl) (λ e r i. cc)

  -- a record behind them is refused
  due_refused : (pre rest : List ℕ) (es : List Record) (e : Record) (r : Refusal) → IsPreamble pre → AllByRecursion IsRecord es → IsRecord e → first_refused file es ≡ None
      → refusal file (length es) (slots_in file es) e ≡ Some r → due_of file (reading_of (pre ++ (records_bytes (es ++ e ∷ []) ++ rest))) ≡ refused file pre false r
  due_refused pre rest es e r h fit fits ok why =
      let b = reading_behind pre rest (es ++ e ∷ []) h (All-append es e fit fits) in
      ap (due_of file) b.is
      ∙ ap (due_by file pre (record { records = (es ++ e ∷ []) ++ b.others; tail = b.tail })) (first_refused-stays file (es ++ e ∷ []) b.others r (push-refused file es e ok ∙ why))

  -- the input decided, at bytes that it goes on with
  decided_by : (a d : Told) (taken put rest : List ℕ) (answer : Result Repaired RepairEnd) (text : List ℕ) (ended : Bool) → Moves a d taken put → IsLeft d.left rest
      → due_of file (reading_of (taken ++ rest)) ≡ record { answer = answer; text = text; at_end = ended } → text ≡ put → (ended ≡ true → rest ≡ []) → Ends (repairing file) a d answer
  decided_by a d taken put rest answer text ended m left e t over = record {
    cause = input;
    taken = taken;
    put = put;
    moves = m;
    unread = λ no. absurd (cc);
    caused = record {
      rest = rest;
      left = left;
      answered = ap (λ x. x.answer) e;
      given = ap (λ x. x.text) e ∙ t;
      ended = λ yes. over (sym (ap (λ x. x.at_end) e) ∙ yes);
    };
  }

  -- one record more, spelled
  spelled : (es : List Record) (e : Record) → records_bytes es ++ record_bytes e ≡ records_bytes (es ++ e ∷ [])
  spelled es e = ap (λ l. records_bytes es ++ l) (sym (append-nil (record_bytes e))) ∙ sym (records_bytes-append es (e ∷ []))

  module _ (a b c : Told) (pre : List ℕ) (h : IsPreamble pre) (x : Takes a b pre) (y : Puts b c pre) where
    -- ---- behind some records

    module _ (m d : Told) (es : List Record) (fit : AllByRecursion IsRecord es) (ok : first_refused file es ≡ None) (reached : Moves c m (records_bytes es) (so_far es)) where
      -- this was taken and put behind them
      behind : (t put : List ℕ) → Moves m d t put → Moves a d (pre ++ (records_bytes es ++ t)) (pre ++ (so_far es ++ put))
      behind t put moves = joined a b c d pre (records_bytes es ++ t) (so_far es ++ put) x y (Moves-trans c m d (records_bytes es) t (so_far es) put reached moves)

      -- no more of it was put
      behind_stopped : (t : List ℕ) → Moves m d t [] → Moves a d (pre ++ (records_bytes es ++ t)) (pre ++ so_far es)
      behind_stopped t moves = subst (λ l. Moves a d (pre ++ (records_bytes es ++ t)) (pre ++ l)) (append-nil (so_far es)) (behind t [] moves)

      write_faults : a.write_faults ≤ m.write_faults
      write_faults = omega (arith, x.moves.write_faults, y.moves.write_faults, reached.write_faults)

      read_faults : a.read_faults ≤ m.read_faults
      read_faults = omega (arith, x.moves.read_faults, y.moves.read_faults, reached.read_faults)

      -- at a record that isn't whole, at the input's end
      break_end : (tail : List ℕ) (break : Break) → Moves m d tail [] → IsAtEnd d.left → front_of tail ≡ breaks break → Ends (repairing file) a d (due_behind file pre es (breaks break)).answer
      break_end tail break moves end at =
          let taken = pre ++ (records_bytes es ++ tail) in
          decided_by a d taken (pre ++ so_far es) [] (due_behind file pre es (breaks break)).answer (pre ++ so_far es) false (behind_stopped tail moves) (at_end_left d.left end)
          (ap (λ l. due_of file (reading_of l)) (append-nil taken) ∙ due_there pre tail es (breaks break) h fit ok at (λ e q i. cc))
          refl (λ no. absurd (cc))

      -- at a length below 8, whatever follows
      length_end : (tail : List ℕ) → Moves m d tail [] → length tail ≡ 8 → length_field tail < 8 → Ends (repairing file) a d (Err (Dump (RecordLength (length es))))
      length_end tail moves eight short =
          let left = some_left d.left in
          let rest = left.0 in
          let taken = pre ++ (records_bytes es ++ tail) in
          let same : (pre ++ (records_bytes es ++ tail)) ++ left.0 ≡ pre ++ (records_bytes es ++ (tail ++ left.0)) =
          append_assoc pre (records_bytes es ++ tail) rest ∙ ap (λ l. pre ++ l) (append_assoc (records_bytes es) tail rest) in
          let at : front_of (tail ++ left.0) ≡ breaks short_length =
          front_of-length (tail ++ rest) (omega (arith, length-append tail rest, eight)) (omega (arith, length_field-front tail rest (omega (arith, eight)), short)) in
          decided_by a d taken (pre ++ so_far es) rest (Err (Dump (RecordLength (length es)))) (pre ++ so_far es) false (behind_stopped tail moves) left.1
          (ap (λ l. due_of file (reading_of l)) same ∙ due_there pre (tail ++ rest) es (breaks short_length) h fit ok at (λ e q i. cc))
          refl (λ no. absurd (cc))

      -- at a failed read
      read_end : (tail : List ℕ) → Moves m d tail [] → (8 ≤ length tail → length tail < length_field tail) → Rose m.read_faults d.read_faults → Ends (repairing file) a d (Err (Dump Read))
      read_end tail moves below rose = record {
        cause = read;
        taken = pre ++ (records_bytes es ++ tail);
        put = pre ++ so_far es;
        moves = behind_stopped tail moves;
        unread = λ no. absurd (cc);
        caused = (
          refl,
          Rose-earlier a.read_faults m.read_faults d.read_faults read_faults rose,
          sym (text_there pre tail es h fit (below_none tail below) ∙ ap (λ (o : Option Refusal). pre ++ text_by file es o) ok),
          refl,
        );
      }

      dump_end : (tail : List ℕ) (fault : DumpFault) → Moves m d tail [] → StopsAt (length es) m d tail fault → Ends (repairing file) a d (Err (Dump fault))
      dump_end tail (RecordHead i) moves s =
          subst (λ n. Ends (repairing file) a d (Err (Dump (RecordHead n)))) (sym s.0) (break_end tail short_head moves s.2 (front_of-head tail s.1.0 s.1.1))
      dump_end tail (RecordLength i) moves s =
          subst (λ n. Ends (repairing file) a d (Err (Dump (RecordLength n)))) (sym s.0) (length_end tail moves s.1.0 s.1.1)
      dump_end tail (Truncated i) moves s =
          subst (λ n. Ends (repairing file) a d (Err (Dump (Truncated n)))) (sym s.0) (break_end tail cut_body moves s.2 (front_of-body tail s.1.0 s.1.1))
      dump_end tail Read moves s = read_end tail moves s.0 s.1
      dump_end tail Preamble moves s = absurd s
      dump_end tail NoRoom moves s = absurd s

      -- at a record that is refused, whatever follows
      refused_end : (fault : RepairEnd) → RefusesRecord file es m d fault → Ends (repairing file) a d (Err fault)
      refused_end fault n =
          let left = some_left d.left in
          let rest = left.0 in
          let e = n.next in
          let taken = pre ++ (records_bytes es ++ record_bytes e) in
          let same : (pre ++ (records_bytes es ++ record_bytes n.next)) ++ left.0 ≡ pre ++ (records_bytes (es ++ n.next ∷ []) ++ left.0) =
          ap (λ l. (pre ++ l) ++ rest) (spelled es e) ∙ append_assoc pre (records_bytes (es ++ e ∷ [])) rest in
          subst (λ f. Ends (repairing file) a d (Err f)) n.is_fault
          (decided_by a d taken (pre ++ (so_far es ++ n.more)) rest (Err n.refused.fault) (pre ++ values_text n.refused.values) false (behind (record_bytes e) n.more n.moves) left.1
          (ap (λ l. due_of file (reading_of l)) same ∙ due_refused pre rest es e n.refused h fit n.fits ok n.is_why)
          (ap (λ l. pre ++ l) n.is_text) (λ no. absurd (cc)))

      -- a write failed within what is due then
      lost_end : LosesRecord file es m d → Ends (repairing file) a d (Err Write)
      lost_end n =
          let e = n.next in
          let taken = pre ++ (records_bytes es ++ record_bytes e) in
          let all : records_bytes es ++ record_bytes n.next ≡ records_bytes (es ++ n.next ∷ []) ++ [] = spelled es e ∙ sym (append-nil (records_bytes (es ++ e ∷ []))) in
          let text : text_so_far file (reading_of (pre ++ (records_bytes es ++ record_bytes n.next))) ≡ pre ++ due_after file es n.next =
          ap (λ l. text_so_far file (reading_of (pre ++ l))) all ∙ text_there pre [] (es ++ e ∷ []) h (All-append es e fit n.fits) no_front
          ∙ ap (λ (o : Option Refusal). pre ++ text_by file (es ++ e ∷ []) o) (push-refused file es e ok) ∙ ap (λ l. pre ++ l) (same_due (es ++ e ∷ []) (refusal file (length es) (slots_in file es) e)) in
          record {
            cause = write;
            taken = taken;
            put = pre ++ (so_far es ++ n.put);
            moves = behind (record_bytes e) n.put n.moves;
            unread = λ no. absurd (cc);
            caused = (
              refl,
              Rose-earlier a.write_faults m.write_faults d.write_faults write_faults n.rose,
              inl (record {
                rest = n.short.rest;
                parts = text ∙ ap (λ l. pre ++ l) n.short.parts ∙ sym (append_assoc pre (so_far es ++ n.put) n.short.rest);
                more = n.short.more;
              }),
            );
          }
        where
          same_due : (fs : List Record) (o : Option Refusal) → text_by file fs o ≡ due_text o (values_so_far file fs)
          same_due fs None = refl
          same_due fs (Some r) = refl

      -- memory ran out at the first slot
      memory_end : LacksMemory file es m d → Ends (repairing file) a d (Err Memory)
      memory_end n =
          let e = n.next in
          let taken = pre ++ (records_bytes es ++ record_bytes e) in
          let all : records_bytes es ++ record_bytes n.next ≡ records_bytes (es ++ n.next ∷ []) ++ [] = spelled es e ∙ sym (append-nil (records_bytes (es ++ e ∷ []))) in
          let spared : preamble_of file (reading_of (pre ++ (records_bytes es ++ record_bytes n.next))) ≡ pre =
          ap (λ l. preamble_of file (reading_of (pre ++ l))) all ∙ ap (preamble_of file) (stopped_reading pre [] (es ++ e ∷ []) h (All-append es e fit n.fits) no_front) in
          record {
            cause = memory;
            taken = taken;
            put = pre ++ so_far es;
            moves = behind_stopped (record_bytes e) n.moves;
            unread = λ no. absurd (cc);
            caused = (
              refl,
              record { rest = []; parts = spared ∙ sym (append-nil pre) ∙ ap (λ l. pre ++ l) (sym (ap values_text n.none)) ∙ sym (append-nil (pre ++ so_far es)) },
              refl,
            );
          }

      halts_end : (fault : RepairEnd) → HaltsAt file es m d fault → Ends (repairing file) a d (Err fault)
      halts_end (Dump fault) s = dump_end s.tail fault s.moves s.at
      halts_end Write s = lost_end s
      halts_end Memory s = memory_end s
      halts_end TooManyRecords s = refused_end TooManyRecords s
      halts_end (WrongCode i) s = refused_end (WrongCode i) s
      halts_end (BadShape i) s = refused_end (BadShape i) s
      halts_end (TooManySlots i) s = refused_end (TooManySlots i) s
      halts_end (Unfit why) s = refused_end (Unfit why) s
      halts_end (Clash i) s = refused_end (Clash i) s
      halts_end (BadBlock i) s = refused_end (BadBlock i) s

      -- ---- at the end of the input

      module _ (end : IsAtEnd m.left) where
        abbrev last_bad : Option Refusal
        last_bad = bad_among (last_values file (slots_in file es))

        whole_there : (o : Option Refusal) → bad_among (last_values file (slots_in file es)) ≡ o → due_of file (reading_of (pre ++ records_bytes es)) ≡ due_at_end file pre es o
        whole_there o is =
            ap (λ l. due_of file (reading_of (pre ++ l))) (sym (append-nil (records_bytes es))) ∙ due_there pre [] es ends h fit ok (front_of-end [] refl) (λ e q i. cc)
            ∙ ap (due_at_end file pre es) is

        last_moves : (put : List ℕ) → Moves m d [] put → Moves a d (pre ++ records_bytes es) (pre ++ (so_far es ++ put))
        last_moves put moves = subst (λ l. Moves a d (pre ++ l) (pre ++ (so_far es ++ put))) (append-nil (records_bytes es)) (behind [] put moves)

        at_end : d.left ≡ m.left → IsAtEnd d.left
        at_end same = subst IsAtEnd (sym same) end

        last_decided : (put : List ℕ) (answer : Result Repaired RepairEnd) (text : List ℕ) → Moves m d [] put → d.left ≡ m.left
            → due_of file (reading_of (pre ++ records_bytes es)) ≡ record { answer = answer; text = pre ++ text; at_end = true } → text ≡ so_far es ++ put → Ends (repairing file) a d answer
        last_decided put answer text moves left is parts =
            decided_by a d (pre ++ records_bytes es) (pre ++ (so_far es ++ put)) [] answer (pre ++ text) true (last_moves put moves) (at_end_left d.left (at_end left))
            (ap (λ l. due_of file (reading_of l)) (append-nil (pre ++ records_bytes es)) ∙ is) (ap (λ l. pre ++ l) parts) (λ yes. refl)

        all_end : (answer : Repaired) → GivesLast file es m d answer → Ends (repairing file) a d (Ok answer)
        all_end answer g =
            subst (λ n. Ends (repairing file) a d (Ok n)) (sym g.answered)
            (last_decided g.more (Ok (numbers file es)) (values_text (last_values file (slots_in file es))) g.moves g.left (whole_there None g.good) g.parts)

        bad_end : (fault : RepairEnd) → RefusesLast file es m d fault → Ends (repairing file) a d (Err fault)
        bad_end fault g =
            subst (λ f. Ends (repairing file) a d (Err f)) g.is_fault
            (last_decided g.more (Err g.refused.fault) (values_text g.refused.values) g.moves g.left (whole_there (Some g.refused) g.is_why) g.parts)

        last_lost : LosesLast file es m d → Ends (repairing file) a d (Err Write)
        last_lost n = record {
          cause = write;
          taken = pre ++ records_bytes es;
          put = pre ++ (so_far es ++ n.put);
          moves = last_moves n.put n.moves;
          unread = λ no. absurd (cc);
          caused = (
            refl,
            Rose-earlier a.write_faults m.write_faults d.write_faults write_faults n.rose,
            inr (
              at_end n.left,
              record {
                rest = n.short.rest;
                parts = ap (λ k. k.text) (whole_there last_bad refl) ∙ same_last (bad_among (last_values file (slots_in file es))) ∙ ap (λ k. pre ++ k) n.short.parts
                    ∙ sym (append_assoc pre (so_far es ++ n.put) n.short.rest);
                more = n.short.more;
              },
            ),
          );
        }
          where
            same_last : (o : Option Refusal) → (due_at_end file pre es o).text ≡ pre ++ due_text o (last_values file (slots_in file es))
            same_last None = refl
            same_last (Some r) = refl

        last_end : (result : Result Repaired RepairEnd) → LastGives file es m d result → Ends (repairing file) a d result
        last_end (Ok answer) g = all_end answer g
        last_end (Err Write) g = last_lost g
        last_end (Err (BadBlock t)) g = bad_end (BadBlock t) g
        last_end (Err (Dump fault)) g = absurd g
        last_end (Err Memory) g = absurd g
        last_end (Err TooManyRecords) g = absurd g
        last_end (Err (WrongCode i)) g = absurd g
        last_end (Err (BadShape i)) g = absurd g
        last_end (Err (TooManySlots i)) g = absurd g
        last_end (Err (Unfit why)) g = absurd g
        last_end (Err (Clash i)) g = absurd g

    halted_end : (d : Told) (fault : RepairEnd) → HaltsAfter file c d fault → Ends (repairing file) a d (Err fault)
    halted_end d fault r = halts_end r.mid d r.records r.reached.fit r.reached.knows.accepted r.reached.moves fault r.at

    ended_end : (d : Told) (result : Result Repaired RepairEnd) → EndsWith file c d result → Ends (repairing file) a d result
    ended_end d result r = last_end r.mid d r.records r.reached.fit r.reached.knows.accepted r.reached.moves r.end result r.last

    -- behind a preamble that was given
    pub rest_end : (d : Told) (result : Result Repaired RepairEnd) → RestGives file c d result → Ends (repairing file) a d result
    rest_end d (Ok answer) r = ended_end d (Ok answer) r
    rest_end d (Err fault) (inl r) = halted_end d fault r
    rest_end d (Err fault) (inr r) = ended_end d (Err fault) r

  -- ---- the preamble

  -- a write failed within the preamble
  pub preamble_lost : (a b c : Told) (pre : List ℕ) → IsPreamble pre → Takes a b pre → WriteFailed b c pre → Ends (repairing file) a c (Err Write)
  preamble_lost a b c pre h x f =
      let text : text_so_far file (reading_of pre) ≡ pre ++ so_far [] = ap (λ l. text_so_far file (reading_of l)) (sym (append-nil pre)) ∙ text_there pre [] [] h tt no_front in
      record {
        cause = write;
        taken = pre;
        put = f.put;
        moves = subst (λ l. Moves a c l f.put) (append-nil pre) (Moves-trans a b c pre [] [] f.put x.moves f.puts.moves);
        unread = λ no. absurd (cc);
        caused = (
          refl,
          Rose-earlier _ _ _ x.moves.write_faults f.rose,
          inl (record {
            rest = f.rest ++ so_far [];
            parts = text ∙ ap (λ l. l ++ so_far []) f.parts ∙ append_assoc f.put f.rest (so_far []);
            more = omega (arith, length-append f.rest (so_far []), f.short);
          }),
        );
      }

  -- no preamble
  no_preamble_there : (a b : Told) (taken rest : List ℕ) → Takes a b taken → IsLeft b.left rest → preamble_len (taken ++ rest) ≡ None → Ends (repairing file) a b (Err (Dump Preamble))
  no_preamble_there a b taken rest x left none =
      decided_by a b taken [] rest (Err (Dump Preamble)) [] false x.moves left (ap (due_of file) (reading_of-none (taken ++ rest) none)) refl (λ no. absurd (cc))

  pub preamble_end : (a b : Told) (fault : DumpFault) → PreambleGives a b (Err fault) → Ends (repairing file) a b (Err (fault_of fault))
  preamble_end a b Preamble h = elim h.holds as (λ _. Ends (repairing file) a b (Err (Dump Preamble))) [
    | inl all ↦ (let left = some_left b.left in no_preamble_there a b h.taken left.0 h.takes left.1 (all left.0))
    | inr end ↦ no_preamble_there a b h.taken [] h.takes (at_end_left b.left end.1) (ap preamble_len (append-nil h.taken) ∙ end.0)
  ]
  preamble_end a b Read h = record {
    cause = read;
    taken = h.0.taken;
    put = [];
    moves = h.0.takes.moves;
    unread = λ no. absurd (cc);
    caused = (refl, h.1, sym (ap (text_so_far file) (reading_of-none h.0.taken h.0.holds)), refl);
  }
  preamble_end a b NoRoom h = record {
    cause = memory;
    taken = [];
    put = [];
    moves = h.moves;
    unread = λ no. refl;
    caused = (refl, IsPrefix-nil _, refl);
  }
  preamble_end a b (RecordHead i) h = absurd h
  preamble_end a b (RecordLength i) h = absurd h
  preamble_end a b (Truncated i) h = absurd h

  -- before anything is read
  pub no_memory_end : (a : Told) → Ends (repairing file) a a (Err Memory)
  no_memory_end a = Ends-no_memory (repairing file) a refl
