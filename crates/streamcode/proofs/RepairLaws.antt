-- `repair`, in the words of captures, of slots and of the streams that fit them.
use Rattle.std.proofs.Common.{◌≡◌, ◌⊎◌, inl, inr, ℕ, ◌<◌, ◌≤◌, ◌==◌, if◌then◌else◌, Bool, true, false, Option, Some, None, option_map, position, List, [], take, ◌++◌, Result, Err, refl, sym, ap, ◌∙◌, subst, arith, length}
use Rattle.std.proofs.lemmas.Bool.{eqb-true}
use Rattle.std.proofs.lemmas.Bool.Decides.{nat_tests}
use Rattle.sc_field.specs.Gf256.{gf256_product}
use Rattle.sc_outside.specs.Ends.{Due}
use Rattle.sc_code.specs.declared.code.CodeFile.{CodeFile}
use Rattle.sc_codefile.specs.Reading.{code_reading}
use Rattle.sc_rtpdump.specs.declared.fault.DumpFault.TheVariants.{Preamble, RecordHead, RecordLength, Truncated, Read, Memory}
use Rattle.sc_rtpdump.specs.Record.{Record, Front, ends, breaks, starts, front_of}
use Rattle.sc_rtpdump.specs.Capture.{IsCapture, AreBytes, Parts, Reading, no_preamble, reads, reading_of, IsReading}
use Rattle.sc_rtpdump.specs.Thin.{break_fault}
use Rattle.sc_rtpdump.proofs.CaptureLaws.{front_of-end}
use Rattle.sc_rtpdump.proofs.ReadingLaws.{reading_of-capture, reading_of-sound, reading_of-only}
use Rattle.sc_slots.specs.Taken.{known_end, one_past}
use Rattle.sc_slots.proofs.TextLaws.{IsMissedCount-unique}
use Rattle.sc_repair.specs.declared.repair.Repaired.{Repaired as Totals}
use Rattle.sc_repair.specs.declared.repair.RepairEnd.{RepairEnd}
use Rattle.sc_repair.specs.declared.repair.RepairEnd.TheVariants as repair
use Rattle.sc_repair.specs.declared.repairer.Unfit.TheVariants as unfit
use Rattle.sc_repair.specs.Repairing.{Refusal, is_bad_value, bad_among, slots_in, last_values, values_text, first_refused, missed_of, numbers, due_at_end, due_behind, due_by, due_of as due_read}
use Rattle.sc_repair.specs.Values.{outcomes}
use Rattle.sc_repair.proofs.ValueLaws.{outcomes-are}
use Rattle.streamcode.specs.declared.end.Role.TheVariants.{Code}
use Rattle.streamcode.specs.declared.end.End.{End}
use Rattle.streamcode.specs.End.{missed_status, status_of, end_of_repair}
use Rattle.streamcode.specs.Jobs.{repair_job}
use Rattle.streamcode.specs.Plans.{owes}
use Rattle.streamcode.specs.RepairLaws.{due_of_repair, CodeFileSaysWhatIsDue, taken_in, symbol_bytes, IsMissedOf, IsUnrefused, RecoveredIsDue, Misses, ZeroIsNoneMissed, FiveIsSomeMissed, HasClashAt, SixIsClash}
use Rattle.streamcode.proofs.FileLaws.{due-file}
use Rattle.streamcode.proofs.LoseLaws.{whole-capture}

-- ---- what the file says
pub code-file-due : CodeFileSaysWhatIsDue
code-file-due files code file input h = due-file Code code_reading (λ file. owes (repair_job file)) files code h.bytes file input h.there h.short h.is

-- ---- statuses

-- those of a capture of which nothing is refused
abbrev IsDone : ℕ → Type 0
IsDone status = (status ≡ 0) ⊎ (status ≡ 5)

not_done : (status : ℕ) → 1 ≤ status → (status < 5) ⊎ (5 < status) → IsDone status → ⊥
not_done status some (inl low) (inl e) = omega (arith, some, e)
not_done status some (inl low) (inr e) = omega (arith, low, e)
not_done status some (inr high) (inl e) = omega (arith, some, e)
not_done status some (inr high) (inr e) = omega (arith, high, e)

fault_not_done : (fault : RepairEnd) → IsDone (status_of (end_of_repair (Err fault))) → ⊥
fault_not_done (repair.Dump Preamble) = not_done 3 (omega arith) (inl (omega arith))
fault_not_done (repair.Dump (RecordHead i)) = not_done 3 (omega arith) (inl (omega arith))
fault_not_done (repair.Dump (RecordLength i)) = not_done 3 (omega arith) (inl (omega arith))
fault_not_done (repair.Dump (Truncated i)) = not_done 3 (omega arith) (inl (omega arith))
fault_not_done (repair.Dump Read) = not_done 7 (omega arith) (inr (omega arith))
fault_not_done (repair.Dump Memory) = not_done 9 (omega arith) (inr (omega arith))
fault_not_done repair.TooManyRecords = not_done 4 (omega arith) (inl (omega arith))
fault_not_done (repair.WrongCode index) = not_done 3 (omega arith) (inl (omega arith))
fault_not_done (repair.BadShape index) = not_done 3 (omega arith) (inl (omega arith))
fault_not_done (repair.TooManySlots slot) = not_done 4 (omega arith) (inl (omega arith))
fault_not_done (repair.Unfit (unfit.OtherWidth slot was now)) = not_done 3 (omega arith) (inl (omega arith))
fault_not_done (repair.Unfit (unfit.OtherEnd slot was now)) = not_done 3 (omega arith) (inl (omega arith))
fault_not_done (repair.Clash slot) = not_done 6 (omega arith) (inr (omega arith))
fault_not_done (repair.BadBlock slot) = not_done 3 (omega arith) (inl (omega arith))
fault_not_done repair.Write = not_done 8 (omega arith) (inr (omega arith))
fault_not_done repair.Memory = not_done 9 (omega arith) (inr (omega arith))

-- status 6 is that of a clash alone
clash_of : (fault : RepairEnd) → status_of (end_of_repair (Err fault)) ≡ 6 → (slot : ℕ) × (fault ≡ repair.Clash slot)
clash_of (repair.Dump Preamble) h = absurd (omega (arith, h))
clash_of (repair.Dump (RecordHead i)) h = absurd (omega (arith, h))
clash_of (repair.Dump (RecordLength i)) h = absurd (omega (arith, h))
clash_of (repair.Dump (Truncated i)) h = absurd (omega (arith, h))
clash_of (repair.Dump Read) h = absurd (omega (arith, h))
clash_of (repair.Dump Memory) h = absurd (omega (arith, h))
clash_of repair.TooManyRecords h = absurd (omega (arith, h))
clash_of (repair.WrongCode index) h = absurd (omega (arith, h))
clash_of (repair.BadShape index) h = absurd (omega (arith, h))
clash_of (repair.TooManySlots slot) h = absurd (omega (arith, h))
clash_of (repair.Unfit (unfit.OtherWidth slot was now)) h = absurd (omega (arith, h))
clash_of (repair.Unfit (unfit.OtherEnd slot was now)) h = absurd (omega (arith, h))
clash_of (repair.Clash slot) h = (slot, refl)
clash_of (repair.BadBlock slot) h = absurd (omega (arith, h))
clash_of repair.Write h = absurd (omega (arith, h))
clash_of repair.Memory h = absurd (omega (arith, h))

-- by whether none is missed
abbrev pub done_status : Bool → ℕ
done_status none = if none then 0 else 5

pub none_by : (missed : ℕ) (none : Bool) → (missed == 0) ≡ none → done_status none ≡ 0 → missed ≡ 0
none_by missed true e h = eqb-true missed 0 e
none_by missed false e h = absurd (omega (arith, h))

pub some_by : (missed : ℕ) (none : Bool) → (missed == 0) ≡ none → done_status none ≡ 5 → 1 ≤ missed
some_by missed true e h = absurd (omega (arith, h))
some_by missed false e h = grind (arith, nat_tests, e)

pub status_some : (missed : ℕ) → 1 ≤ missed → missed_status missed ≡ 5
status_some missed h = let test : (missed == 0) ≡ false = grind (arith, nat_tests, h) in ap done_status test

not_six : (none : Bool) → done_status none ≡ 6 → ⊥
not_six true h = omega (arith, h)
not_six false h = omega (arith, h)

-- ---- what is due

-- of an answer of repairing
abbrev as_end : Due (Result Totals RepairEnd) → Due End
as_end due = record { answer = end_of_repair due.answer; text = due.text; at_end = due.at_end }

abbrev status_due : Due (Result Totals RepairEnd) → ℕ
status_due due = status_of (end_of_repair due.answer)

module _ (file : CodeFile) where
  due_parts : (input preamble : List ℕ) (parts : Parts) (o : Option Refusal) → reading_of input ≡ reads preamble parts → first_refused file parts.records ≡ o
      → due_of_repair file input ≡ as_end (due_by file preamble parts o)
  due_parts input preamble parts o e f = ap (λ r. as_end (due_read file r)) e ∙ ap (λ o. as_end (due_by file preamble parts o)) f

  due_whole : (input preamble : List ℕ) (records : List Record) → IsCapture input preamble records → IsUnrefused file records
      → due_of_repair file input ≡ as_end (due_at_end file preamble records None)
  due_whole input preamble records c u =
      due_parts input preamble (record { records = records; tail = [] }) None (reading_of-capture input preamble records c) u.none_refused
      ∙ ap (λ front. as_end (due_behind file preamble records front)) (front_of-end [] refl)
      ∙ ap (λ o. as_end (due_at_end file preamble records o)) u.none_bad

  missed_there : (records : List Record) → IsMissedOf file records (missed_of file (slots_in file records))
  missed_there records =
      let taken = taken_in file records in
      record {
        values = outcomes file.code.k (symbol_bytes file records) file.channel.t taken (known_end taken);
        are_outcomes = outcomes-are file.code.k (symbol_bytes file records) file.channel.t taken (known_end taken);
        counted = refl;
      }

  missed_same : (records : List Record) (missed : ℕ) → IsMissedOf file records missed → missed_of file (slots_in file records) ≡ missed
  missed_same records missed h =
      IsMissedCount-unique 0 gf256_product file.code.k (symbol_bytes file records) file.channel.t (taken_in file records) (missed_of file (slots_in file records)) missed (missed_there records) h

  -- ---- where nothing is refused
  record IsWhole (input : List ℕ) : Type 0 where
    preamble : List ℕ
    records : List Record
    capture : IsCapture input preamble records
    unrefused : IsUnrefused file records

  at_end_none : (preamble : List ℕ) (records : List Record) (o : Option Refusal) → IsDone (status_due (due_at_end file preamble records o)) → o ≡ None
  at_end_none preamble records None d = refl
  at_end_none preamble records (Some r) d = absurd (fault_not_done r.fault d)

  behind_whole : (preamble : List ℕ) (records : List Record) (front : Front) → ((e : Record) (rest : List ℕ) → front ≡ starts e rest → ⊥) → IsDone (status_due (due_behind file preamble records front))
      → (front ≡ ends) × (bad_among (last_values file (slots_in file records)) ≡ None)
  behind_whole preamble records (breaks break) ended d = absurd (fault_not_done (repair.Dump (break_fault (length records) break)) d)
  behind_whole preamble records (starts e rest) ended d = absurd (ended e rest refl)
  behind_whole preamble records ends ended d = (refl, at_end_none preamble records (bad_among (last_values file (slots_in file records))) d)

  parts_whole : (input preamble : List ℕ) (parts : Parts) (o : Option Refusal) → IsReading input preamble parts → first_refused file parts.records ≡ o → IsDone (status_due (due_by file preamble parts o)) → IsWhole input
  parts_whole input preamble parts (Some r) reading e d = absurd (fault_not_done r.fault d)
  parts_whole input preamble parts None reading e d =
      let both = behind_whole preamble parts.records (front_of parts.tail) reading.ended d in
      record {
        preamble = preamble;
        records = parts.records;
        capture = whole-capture input preamble parts reading both.0;
        unrefused = record { none_refused = e; none_bad = both.1 };
      }

  reading_whole : (input : List ℕ) (reading : Reading) → AreBytes input → reading_of input ≡ reading → IsDone (status_due (due_read file reading)) → IsWhole input
  reading_whole input no_preamble fits e d = absurd (fault_not_done (repair.Dump Preamble) d)
  reading_whole input (reads preamble parts) fits e d =
      parts_whole input preamble parts (first_refused file parts.records) (reading_of-sound input preamble parts fits e) refl d

  whole : (input : List ℕ) → AreBytes input → IsDone (status_of (due_of_repair file input).answer) → IsWhole input
  whole input fits d = reading_whole input (reading_of input) fits refl d

  status_whole : (input preamble : List ℕ) (records : List Record) → IsCapture input preamble records → IsUnrefused file records
      → status_of (due_of_repair file input).answer ≡ missed_status (missed_of file (slots_in file records))
  status_whole input preamble records c u = ap (λ (d : Due End). status_of d.answer) (due_whole input preamble records c u)

  zero_misses : (input : List ℕ) → AreBytes input → status_of (due_of_repair file input).answer ≡ 0 → Misses file input 0
  zero_misses input fits h =
      let w = whole input fits (inl h) in
      let missed = missed_of file (slots_in file w.records) in
      let none : missed ≡ 0 = none_by missed (missed == 0) refl (sym (status_whole input w.preamble w.records w.capture w.unrefused) ∙ h) in
      record { preamble = w.preamble; records = w.records; capture = w.capture; unrefused = w.unrefused; missed_is = subst (IsMissedOf file w.records) none (missed_there w.records) }

  five_misses : (input : List ℕ) → AreBytes input → status_of (due_of_repair file input).answer ≡ 5 → (missed : ℕ) × (1 ≤ missed) × Misses file input missed
  five_misses input fits h =
      let w = whole input fits (inr h) in
      let missed = missed_of file (slots_in file w.records) in (
        missed,
        some_by missed (missed == 0) refl (sym (status_whole input w.preamble w.records w.capture w.unrefused) ∙ h),
        record { preamble = w.preamble; records = w.records; capture = w.capture; unrefused = w.unrefused; missed_is = missed_there w.records },
      )

  misses_status : (input : List ℕ) (missed : ℕ) → Misses file input missed → status_of (due_of_repair file input).answer ≡ missed_status missed
  misses_status input missed h = status_whole input h.preamble h.records h.capture h.unrefused ∙ ap missed_status (missed_same h.records missed h.missed_is)

  -- ---- where there is a clash
  bad_not_six : (preamble : List ℕ) (records : List Record) (values : List (Option (List (List ℕ)))) (place : Option ℕ)
      → status_due (due_at_end file preamble records (option_map (λ t. record { fault = repair.BadBlock t; values = take t values }) place)) ≡ 6 → ⊥
  bad_not_six preamble records values None h = not_six (missed_of file (slots_in file records) == 0) h
  bad_not_six preamble records values (Some t) h = omega (arith, h)

  behind_not_six : (preamble : List ℕ) (records : List Record) (front : Front) → status_due (due_behind file preamble records front) ≡ 6 → ⊥
  behind_not_six preamble records (breaks break) h = let c = clash_of (repair.Dump (break_fault (length records) break)) h in cc (c.1)
  behind_not_six preamble records ends h = let values = last_values file (slots_in file records) in bad_not_six preamble records values (position is_bad_value values) h
  behind_not_six preamble records (starts e rest) h = let values = last_values file (slots_in file records) in bad_not_six preamble records values (position is_bad_value values) h

  parts_clash : (input preamble : List ℕ) (parts : Parts) (o : Option Refusal) → IsReading input preamble parts → first_refused file parts.records ≡ o → status_due (due_by file preamble parts o) ≡ 6
      → (slot : ℕ) × HasClashAt file input slot
  parts_clash input preamble parts None reading e h = absurd (behind_not_six preamble parts.records (front_of parts.tail) h)
  parts_clash input preamble parts (Some r) reading e h =
      let c = clash_of r.fault h in (
        c.0,
        record {
          preamble = preamble;
          parts = parts;
          reading = reading;
          refusal = r;
          is_first = e;
          clashes = c.1;
          given =
              due_parts input preamble parts (Some r) (reading_of-only input preamble parts reading) e
              ∙ ap (λ fault. as_end (record { answer = Err fault; text = preamble ++ values_text r.values; at_end = false })) c.1;
        },
      )

  reading_clash : (input : List ℕ) (reading : Reading) → AreBytes input → reading_of input ≡ reading → status_due (due_read file reading) ≡ 6 → (slot : ℕ) × HasClashAt file input slot
  reading_clash input no_preamble fits e h = absurd (omega (arith, h))
  reading_clash input (reads preamble parts) fits e h =
      parts_clash input preamble parts (first_refused file parts.records) (reading_of-sound input preamble parts fits e) refl h

-- ---- the laws
pub recovered-due : RecoveredIsDue
recovered-due file input preamble records c u =
    let taken = taken_in file records in
    record {
      totals = numbers file records;
      text = values_text (last_values file (slots_in file records));
      given = due_whole file input preamble records c u;
      is_text = record {
        values = last_values file (slots_in file records);
        are_outcomes = outcomes-are file.code.k (symbol_bytes file records) file.channel.t taken (one_past taken);
        is_written = refl;
      };
      end_is = refl;
      missed_is = missed_there file records;
    }

pub zero-none-missed : ZeroIsNoneMissed
zero-none-missed file input fits = (zero_misses file input fits, λ h. misses_status file input 0 h)

pub five-some-missed : FiveIsSomeMissed
five-some-missed file input fits = (five_misses file input fits, λ h. misses_status file input h.0 h.2 ∙ status_some h.0 h.1)

pub six-clash : SixIsClash
six-clash file input fits = (reading_clash file input (reading_of input) fits refl, λ h. ap (λ (d : Due End). status_of d.answer) h.1.given)
