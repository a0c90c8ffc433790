-- The steps of repairing: one record, and many.
use Rattle.std.proofs.Common.{◌≡◌, ℕ, ◌+◌, ◌≤◌, nat_le, List, [], ◌∷◌, ◌++◌, length, take, Option, Some, None, Result, Ok, Err, refl, sym, ap, ◌∙◌, subst, arith, inl, inr, append-nil, append_assoc, length-append}
use Rattle.std.specs.Io.KnownBytes.{IsAtEnd}
use Rattle.std.proofs.lemmas.Bool.{cases_lt, cond-true, le-leb}
use Rattle.std.proofs.lemmas.List.{take-append-le, take_at}
use Rattle.sc_outside.specs.Pending.{FlushFailed}
use Rattle.sc_outside.specs.Port.{Told, Moves, Takes, Puts}
use Rattle.sc_outside.specs.Whole.{PutsAll}
use Rattle.sc_outside.proofs.FaultsLaws.{Rose-earlier}
use Rattle.sc_outside.proofs.MovesLaws.{Moves-none, Moves-trans}
use Rattle.sc_rtpdump.specs.declared.fault.DumpFault.{DumpFault}
use Rattle.sc_rtpdump.specs.Capture.{records_bytes}
use Rattle.sc_rtpdump.specs.Head.{StopsAt, Stops}
use Rattle.sc_rtpdump.specs.Record.{Record, IsRecord, record_bytes}
use Rattle.sc_rtpdump.proofs.ThinLaws.{records_bytes-append}
use Rattle.sc_rtpdump.proofs.ThinSteps.{All-append}
use Rattle.sc_code.specs.declared.code.CodeFile.{CodeFile}
use Rattle.sc_slots.specs.Slot.{Slot}
use Rattle.sc_slots.specs.ProtectSteps.{GivesMore}
use Rattle.sc_slots.proofs.FlushSteps.{last_given, last_failed}
use Rattle.sc_repair.specs.declared.repair.Counts.{Counts}
use Rattle.sc_repair.specs.declared.repair.RepairEnd.{RepairEnd}
use Rattle.sc_repair.specs.declared.repair.RepairEnd.TheVariants.{Dump, TooManyRecords, WrongCode, BadShape, TooManySlots, Unfit, Clash, BadBlock, Write, Memory}
use Rattle.sc_repair.specs.Repairer.{Repairer}
use Rattle.sc_repair.specs.Repairing.{Refusal, first_of, values_text, slots_in, still, refusal, first_refused, values_so_far}
use Rattle.sc_repair.specs.RepairSteps.{IsRefused, due_text, FallsShort, Knows, no_counts, due_after, RecordGives, TakesRecord, LosesRecord, RefusesRecord, HaltsAt, Stood, Reached, TakesAll, HaltsAfter}
use Rattle.sc_repair.proofs.Growth.{first_refused-push}
use Rattle.sc_repair.proofs.JobLaws.{IsRefusal, refusal-fault, values_at-none}

-- ---- a record was read, and what came of it

-- a whole record was taken, and then more was put
read_then : (a b c : Told) (bytes put : List ℕ) → Takes a b bytes → Puts b c put → Moves a c bytes put
read_then a b c bytes put t p = subst (λ l. Moves a c l put) (append-nil bytes) (Moves-trans a b c bytes [] [] put t.moves p.moves)

-- all that was put behind what waited, which was nothing, was given
all_given : (b c d : Told) (more after : List ℕ) → GivesMore b c more [] after → PutsAll c d after → Puts b d more
all_given b c d more after g p =
    let x = last_given b c d more [] after g p in
    subst (Puts b d) (sym (x.parts ∙ append-nil x.put)) x.puts

-- or a write failed
failed_short : (due text more : List ℕ) (b c d : Told) (after later : List ℕ) → GivesMore b c more [] after → FlushFailed after later c d → text ++ more ≡ due → FallsShort due b d [] text
failed_short due text more b c d after later g f e = record {
  more = more;
  loses = last_failed b c d more [] after later g f;
  prefix = record { rest = []; parts = sym e ∙ sym (append-nil (text ++ more)) };
}

module _ (file : CodeFile) (records : List Record) (e : Record) where
  -- what was put out before it
  abbrev before : List ℕ
  before = values_text (values_so_far file records)

  abbrev why : Option Refusal
  why = refusal file (length records) (slots_in file records) e

  -- an accepted record isn't refused
  accepted-why : first_refused file (records ++ e ∷ []) ≡ None → first_refused file records ≡ None → refusal file (length records) (slots_in file records) e ≡ None
  accepted-why all none = sym (sym all ∙ first_refused-push file records e ∙ ap (λ (o : Option Refusal). first_of o (refusal file (length records) (slots_in file records) e)) none)

  module _ (a b : Told) (fits : IsRecord e) (takes : Takes a b (record_bytes e)) where
    pub loses_record : (c : Told) → FallsShort (due_after file records e) b c [] (values_text (values_so_far file records)) → LosesRecord file records a c
    loses_record c h =
        let g = h.loses.gives in
        let lacking = h.loses.lacking in
        let rest = h.prefix.rest in
        record {
          next = e;
          fits = fits;
          put = g.put;
          moves = read_then a b c (record_bytes e) g.put takes g.puts;
          short = record {
            rest = lacking ++ rest;
            parts = h.prefix.parts ∙ ap (λ l. (before ++ l) ++ rest) g.parts ∙ ap (λ l. l ++ rest) (sym (append_assoc before g.put lacking)) ∙ append_assoc (before ++ g.put) lacking rest;
            more = omega (arith, length-append lacking rest, h.loses.short);
          };
          rose = Rose-earlier _ _ _ (omega (arith, takes.write_faults)) h.loses.rose;
        }

    refused_short : (c d : Told) (after later : List ℕ) (fault : RepairEnd) → IsRefused (refusal file (length records) (slots_in file records) e) b c [] after (values_text (values_so_far file records)) fault → FlushFailed after later c d
        → LosesRecord file records a d
    refused_short c d after later fault r f =
        loses_record d (failed_short (due_after file records e) before r.more b c d after later r.gives f
        (r.is_text ∙ ap (λ (o : Option Refusal). due_text o (values_so_far file (records ++ e ∷ []))) (sym r.is_why)))

    -- what is due then was not given
    flush_loses : (c d : Told) (after later : List ℕ) (kept' : Option Repairer) (counts' : Counts) (end : Result (Unit {0}) RepairEnd) → first_refused file records ≡ None
        → RecordGives file records e b c [] after kept' counts' (Ok end) → FlushFailed after later c d → LosesRecord file records a d
    flush_loses c d after later kept' counts' (Ok u) none g f =
        let k = g.0 in
        loses_record d (failed_short (due_after file records e) before g.1.0 b c d after later g.1.1 f
        (sym g.1.2 ∙ ap (λ (o : Option Refusal). due_text o (values_so_far file (records ++ e ∷ []))) (sym (accepted-why k.accepted none))))
    flush_loses c d after later kept' counts' (Err Memory) none g f =
        absurd (omega (arith, ap length g.1.parts, length-append g.1.put after, ap length f.failed.parts, length-append f.failed.put f.failed.rest, f.failed.short))
    flush_loses c d after later kept' counts' (Err (Dump fault)) none g f = refused_short c d after later (Dump fault) g f
    flush_loses c d after later kept' counts' (Err TooManyRecords) none g f = refused_short c d after later TooManyRecords g f
    flush_loses c d after later kept' counts' (Err (WrongCode i)) none g f = refused_short c d after later (WrongCode i) g f
    flush_loses c d after later kept' counts' (Err (BadShape i)) none g f = refused_short c d after later (BadShape i) g f
    flush_loses c d after later kept' counts' (Err (TooManySlots i)) none g f = refused_short c d after later (TooManySlots i) g f
    flush_loses c d after later kept' counts' (Err (Unfit x)) none g f = refused_short c d after later (Unfit x) g f
    flush_loses c d after later kept' counts' (Err (Clash i)) none g f = refused_short c d after later (Clash i) g f
    flush_loses c d after later kept' counts' (Err (BadBlock i)) none g f = refused_short c d after later (BadBlock i) g f
    flush_loses c d after later kept' counts' (Err Write) none g f = refused_short c d after later Write g f

    pub flush_lost : (c d : Told) (waits after later : List ℕ) (kept' : Option Repairer) (counts' : Counts) (end : Result (Unit {0}) RepairEnd) → waits ≡ [] → first_refused file records ≡ None
        → RecordGives file records e b c waits after kept' counts' (Ok end) → FlushFailed after later c d → LosesRecord file records a d
    flush_lost c d waits after later kept' counts' end empty none g f =
        flush_loses c d after later kept' counts' end none (subst (λ l. RecordGives file records e b c l after kept' counts' (Ok end)) empty g) f

    -- or it was: the record was taken
    pub takes_record : (c d : Told) (after : List ℕ) (kept' : Option Repairer) (counts' : Counts) → RecordGives file records e b c [] after kept' counts' (Ok (Ok tt)) → PutsAll c d after
        → TakesRecord file records a d kept' counts'
    takes_record c d after kept' counts' g p = record {
      next = e;
      fits = fits;
      more = g.1.0;
      moves = read_then a b d (record_bytes e) g.1.0 takes (all_given b c d g.1.0 after g.1.1 p);
      knows = g.0;
      parts = g.1.2;
    }

    refuses : (c d : Told) (after : List ℕ) (fault : RepairEnd) → IsRefused (refusal file (length records) (slots_in file records) e) b c [] after (values_text (values_so_far file records)) fault → PutsAll c d after
        → RefusesRecord file records a d fault
    refuses c d after fault r p = record {
      next = e;
      fits = fits;
      refused = r.refused;
      is_why = r.is_why;
      is_fault = r.is_fault;
      more = r.more;
      moves = read_then a b d (record_bytes e) r.more takes (all_given b c d r.more after r.gives p);
      is_text = sym r.is_text;
    }

    -- or it is refused
    halts : (c d : Told) (after : List ℕ) (kept' : Option Repairer) (counts' : Counts) (fault : RepairEnd) → RecordGives file records e b c [] after kept' counts' (Ok (Err fault)) → PutsAll c d after
        → HaltsAt file records a d fault
    halts c d after kept' counts' (Dump fault) g p = absurd (subst IsRefusal g.is_fault (refusal-fault file (length records) (slots_in file records) e g.refused g.is_why))
    halts c d after kept' counts' Write g p = absurd (subst IsRefusal g.is_fault (refusal-fault file (length records) (slots_in file records) e g.refused g.is_why))
    halts c d after kept' counts' Memory g p = record {
      next = e;
      fits = fits;
      moves = read_then a b d (record_bytes e) [] takes (all_given b c d [] after g.1 p);
      none = g.0;
    }
    halts c d after kept' counts' TooManyRecords g p = refuses c d after TooManyRecords g p
    halts c d after kept' counts' (WrongCode i) g p = refuses c d after (WrongCode i) g p
    halts c d after kept' counts' (BadShape i) g p = refuses c d after (BadShape i) g p
    halts c d after kept' counts' (TooManySlots i) g p = refuses c d after (TooManySlots i) g p
    halts c d after kept' counts' (Unfit x) g p = refuses c d after (Unfit x) g p
    halts c d after kept' counts' (Clash i) g p = refuses c d after (Clash i) g p
    halts c d after kept' counts' (BadBlock i) g p = refuses c d after (BadBlock i) g p

    pub record_halts : (c d : Told) (waits after : List ℕ) (kept' : Option Repairer) (counts' : Counts) (fault : RepairEnd) → waits ≡ [] → RecordGives file records e b c waits after kept' counts' (Ok (Err fault)) → PutsAll c d after
        → HaltsAt file records a d fault
    record_halts c d waits after kept' counts' fault empty g p =
        halts c d after kept' counts' fault (subst (λ l. RecordGives file records e b c l after kept' counts' (Ok (Err fault))) empty g) p

-- ---- many records

-- so many records were taken, and what is due then was written
pub record Passed (file : CodeFile) (old new : Told) (n : ℕ) (kept : Option Repairer) (counts : Counts) : Type 0 where
  pub records : List Record
  pub count : length records ≡ n
  pub reached : Reached file old new records kept counts

-- the moments at which so many records had been taken
Stood-later : (file : CodeFile) (records : List Record) (i : ℕ) (a b c : Told) (t p : List ℕ) → Stood file records i a b → Moves b c t p → Stood file records i a c
Stood-later file records i a b c t p x m = record {
  mid = x.mid;
  before = x.before;
  taken = x.taken ++ t;
  put = x.put ++ p;
  after = Moves-trans x.mid b c x.taken t x.put p x.after m;
}

Stood-more : (file : CodeFile) (records more : List Record) (i : ℕ) (a b : Told) → i ≤ length records → Stood file records i a b → Stood file (records ++ more) i a b
Stood-more file records more i a b le x = record {
  mid = x.mid;
  before = subst (λ (l : List Record). Moves a x.mid (records_bytes l) (values_text (values_so_far file l))) (sym (take-append-le i records more le)) x.before;
  taken = x.taken;
  put = x.put;
  after = x.after;
}

Stood-now : (file : CodeFile) (records : List Record) (a b : Told) → Moves a b (records_bytes records) (values_text (values_so_far file records)) → Stood file records (length records) a b
Stood-now file records a b m =
    let all : take (length records) records ≡ records = ap (take (length records)) (sym (append-nil records)) ∙ take_at records [] (length records) refl in
    record {
      mid = b;
      before = subst (λ (l : List Record). Moves a b (records_bytes l) (values_text (values_so_far file l))) (sym all) m;
      taken = [];
      put = [];
      after = Moves-none b;
    }

Stood-none : (file : CodeFile) (a b : Told) → Moves a b [] (values_text (values_so_far file [])) → (i : ℕ) → i ≤ 0 → Stood file [] i a b
Stood-none file a b m i le =
    let none : 0 ≡ i = omega arith in
    subst (λ (n : ℕ). Stood file [] n a b) none (Stood-now file [] a b m)

Stood-push : (file : CodeFile) (records : List Record) (e : Record) (a b c : Told) (t p : List ℕ) → ((i : ℕ) → i ≤ length records → Stood file records i a b) → Moves b c t p
    → Moves a c (records_bytes (records ++ e ∷ [])) (values_text (values_so_far file (records ++ e ∷ []))) → (i : ℕ) → i ≤ length (records ++ e ∷ []) → Stood file (records ++ e ∷ []) i a c
Stood-push file records e a b c t p each m all i le =
    elim (cases_lt (length records) i) [
      | inl last ↦ (
          let same : length (records ++ e ∷ []) ≡ i = omega (arith, length-append records (e ∷ []), le) in
          subst (λ (n : ℕ). Stood file (records ++ e ∷ []) n a c) same (Stood-now file (records ++ e ∷ []) a c all))
      | inr earlier ↦ Stood-more file records (e ∷ []) i a c earlier (Stood-later file records i a b c t p (each i earlier) m)
    ]

pub Passed-none : (file : CodeFile) (a : Told) (kept : Option Repairer) (counts : Counts) → kept ≡ None → counts ≡ no_counts → Passed file a a 0 kept counts
Passed-none file a kept counts ek ec =
    let no_text : values_text (values_so_far file []) ≡ [] = ap values_text (values_at-none file 0) in
    let start : Moves a a [] (values_text (values_so_far file [])) = subst (Moves a a []) (sym no_text) (Moves-none a) in
    let knows : Knows file [] None no_counts = record {
      accepted = refl;
      keeps = (refl, no_text);
      strangers = refl;
      repeats = refl;
    } in
    record {
      records = [];
      count = refl;
      reached = record {
        fit = tt;
        knows = subst (λ (c : Counts). Knows file [] kept c) (sym ec) (subst (λ (k : Option Repairer). Knows file [] k no_counts) (sym ek) knows);
        moves = start;
        stood = Stood-none file a a start;
      };
    }

-- one record more
pub Passed-more : (file : CodeFile) (a b c : Told) (n : ℕ) (kept kept' : Option Repairer) (counts counts' : Counts) → (x : Passed file a b n kept counts) → TakesRecord file x.records b c kept' counts'
    → Passed file a c (n + 1) kept' counts'
Passed-more file a b c n kept kept' counts counts' x t =
    let es = x.records in
    let e = t.next in
    let bytes : records_bytes es ++ record_bytes e ≡ records_bytes (es ++ e ∷ []) =
    ap (λ l. records_bytes es ++ l) (sym (append-nil (record_bytes e))) ∙ sym (records_bytes-append es (e ∷ [])) in
    let all : Moves a c (records_bytes (es ++ t.next ∷ [])) (values_text (values_so_far file (es ++ t.next ∷ []))) =
    subst (λ l. Moves a c l (values_text (values_so_far file (es ++ e ∷ [])))) bytes
    (subst (Moves a c (records_bytes es ++ record_bytes e)) (sym t.parts) (Moves-trans a b c _ _ _ _ x.reached.moves t.moves)) in
    record {
      records = es ++ e ∷ [];
      count = omega (arith, length-append es (e ∷ []), x.count);
      reached = record {
        fit = All-append es e x.reached.fit t.fits;
        knows = t.knows;
        moves = all;
        stood = Stood-push file es e a b c (record_bytes e) t.more x.reached.stood t.moves all;
      };
    }

pub takes_all : (file : CodeFile) (a b c : Told) (n : ℕ) (kept : Option Repairer) (counts : Counts) → Passed file a b n kept counts → Moves b c [] [] → IsAtEnd c.left → TakesAll file a c kept counts
takes_all file a b c n kept counts x m end = record {
  records = x.records;
  reached = record {
    fit = x.reached.fit;
    knows = x.reached.knows;
    moves = subst (λ l. Moves a c l (values_text (values_so_far file x.records))) (append-nil (records_bytes x.records))
        (subst (Moves a c (records_bytes x.records ++ [])) (append-nil (values_text (values_so_far file x.records))) (Moves-trans a b c _ _ _ _ x.reached.moves m));
    stood = λ i le. Stood-later file x.records i a b c [] [] (x.reached.stood i le) m;
  };
  end = end;
}

pub halts_after : (file : CodeFile) (a b c : Told) (n : ℕ) (kept : Option Repairer) (counts : Counts) (fault : RepairEnd) → (x : Passed file a b n kept counts) → HaltsAt file x.records b c fault → HaltsAfter file a c fault
halts_after file a b c n kept counts fault x h = record { records = x.records; mid = b; kept = kept; counts = counts; reached = x.reached; at = h }

-- a whole record behind 8,000,000 others
many-why : (file : CodeFile) (index : ℕ) (slots : List Slot) (e : Record) → 8000000 ≤ index → refusal file index slots e ≡ Some (still file slots TooManyRecords)
unfolding refusal
many-why file index slots e many = cond-true (nat_le 8000000 index) _ _ (le-leb 8000000 index many)

pub too_many : (file : CodeFile) (a b c : Told) (n : ℕ) (kept : Option Repairer) (counts : Counts) (e : Record) → 8000000 ≤ n → Passed file a b n kept counts → IsRecord e → Takes b c (record_bytes e)
    → HaltsAfter file a c TooManyRecords
too_many file a b c n kept counts e many x fits takes =
    let es = x.records in
    halts_after file a b c n kept counts TooManyRecords x (record {
      next = e;
      fits = fits;
      refused = still file (slots_in file es) TooManyRecords;
      is_why = many-why file (length es) (slots_in file es) e (omega (arith, x.count));
      is_fault = refl;
      more = [];
      moves = takes.moves;
      is_text = sym (append-nil (values_text (values_so_far file es)));
    })

pub stops_after : (file : CodeFile) (a b c : Told) (n : ℕ) (kept : Option Repairer) (counts : Counts) (fault : DumpFault) → Passed file a b n kept counts → Stops n b c fault → HaltsAfter file a c (Dump fault)
stops_after file a b c n kept counts fault x s =
    halts_after file a b c n kept counts (Dump fault) x (record { tail = s.tail; moves = s.takes.moves; at = subst (λ m. StopsAt m b c s.tail fault) (sym x.count) s.at })
