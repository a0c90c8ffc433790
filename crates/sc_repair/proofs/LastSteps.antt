-- The steps of repairing: the last slots, once the input is at its end.
use Rattle.std.proofs.Common.{◌≡◌, ℕ, zero as naught, suc, ◌+◌, ◌-◌, ◌<◌, ◌≤◌, true, false, Some, None, List, [], ◌++◌, length, take, get_or, count_by, is_none, Option, Ok, Err, refl, sym, ap, ◌∙◌, subst, arith, inl, inr, append-nil, append_assoc, length-append, take_at}
use Rattle.std.proofs.lemmas.Bool.{cases_lt}
use Rattle.std.proofs.lemmas.List.{take_all, nil_from_length}
use Rattle.sc_outside.proofs.MovesLaws.{Moves-none}
use Rattle.std.proofs.lemmas.List.Sums.{count_by_more_no}
use Rattle.sc_field.specs.Gf256.{gf256_product}
use Rattle.sc_outside.specs.Ends.{IsPrefix, IsProperPrefix}
use Rattle.sc_outside.specs.Faults.{Rose}
use Rattle.sc_outside.specs.Pending.{FlushFailed}
use Rattle.sc_outside.specs.Port.{Told, Moves}
use Rattle.sc_outside.specs.Whole.{PutsAll as PutsWhole}
use Rattle.sc_code.specs.declared.code.CodeFile.{CodeFile}
use Rattle.sc_rtpdump.specs.Record.{Record}
use Rattle.sc_slots.specs.ProtectSteps.{GivesMore, LosesMore}
use Rattle.sc_slots.specs.Repair.{HasNoClash, IsSettled}
use Rattle.sc_slots.specs.Slot.{Slot}
use Rattle.sc_slots.specs.Taken.{Taken, one_past, known_end}
use Rattle.sc_slots.proofs.EndLaws.{AllBelow-one_past, known_end-le}
use Rattle.sc_slots.proofs.FlushSteps.{last_given, last_failed}
use Rattle.sc_repair.specs.declared.repair.Counts.{Counts}
use Rattle.sc_repair.specs.declared.repair.RepairEnd.{RepairEnd}
use Rattle.sc_repair.specs.declared.repair.RepairEnd.TheVariants.{Dump, TooManyRecords, WrongCode, BadShape, TooManySlots, Unfit, Clash, BadBlock, Write, Memory}
use Rattle.sc_repair.specs.declared.repair.Repaired.{Repaired}
use Rattle.sc_repair.specs.Repairer.{Repairer}
use Rattle.sc_repair.specs.Repairing.{values_text, width_in, slots_in, taken_of, values_so_far, bad_among, last_values, missed_of}
use Rattle.sc_repair.specs.Steps.{Done, LosesTo, AllGives, values_by, end_of}
use Rattle.sc_repair.specs.RepairSteps.{IsSet, values_now, due_text, Rests, IsGoing, IsFewOf, Knows, GivesLeft, RefusesLeft, LosesLeft, LeftGives, GivesLast, LastGives}
use Rattle.sc_repair.specs.Values.{value_at, put_values, outcomes}
use Rattle.sc_repair.proofs.ValueLaws.{value_at-settled, put_values-le, put_values-at, outcomes-length, outcomes-take, outcomes-begin}
use Rattle.sc_repair.proofs.Growth.{bad_among-lacks}
use Rattle.sc_repair.proofs.PutSteps.{due-front}
use Rattle.sc_repair.proofs.SlotSteps.{bad_due}

-- ---- the missed ones lie below the known end

-- where no value from place a on is missed, those below it are counted alone
counted_below : (values : List (Option (List (List ℕ)))) (a j : ℕ) → ((i : ℕ) → a ≤ i → i < length values → is_none (get_or values i None) ≡ false) → count_by is_none (take (a + j) values) ≡ count_by is_none (take a values)
counted_below values a naught none = let e : a + 0 ≡ a = omega arith in ap (λ n. count_by is_none (take n values)) e
counted_below values a (suc j) none =
    let e : a + suc j ≡ a + j + 1 = omega arith in
    ap (λ n. count_by is_none (take n values)) e
    ∙ elim (cases_lt (a + j) (length values)) [
      | inl lt ↦ count_by_more_no is_none values (a + j) None lt (none (a + j) (omega arith) lt)
      | inr le ↦ ap (count_by is_none) (take_all (a + j + 1) values (omega (arith, le)) ∙ sym (take_all (a + j) values le))
    ]
    ∙ counted_below values a j none

not_none : {X : Type 0} (o : Option X) → (o ≡ None → ⊥) → is_none o ≡ false
not_none None h = absurd (h refl)
not_none (Some x) h = refl

within_limit : (n p l : ℕ) → n ≤ p → p ≤ l → n ≤ l
within_limit n p l a b = omega (arith, a, b)

-- beyond all values there is nothing to count
all_counted : (values : List (Option (List (List ℕ)))) (p l a : ℕ) → length values ≤ p → p ≤ l → count_by is_none (take l values) ≡ count_by is_none (take (a + length values) values)
all_counted values p l a le few =
    ap (count_by is_none) (take_all l values (within_limit (length values) p l le few) ∙ sym (take_all (a + length values) values (omega arith)))

longer : (n a b l : ℕ) → n ≡ a → l ≡ a + b → n ≤ l
longer n a b l e f = omega (arith, e, f)

module _ (file : CodeFile) (slots : List Slot) (s : Repairer) (missed : ℕ) (text : List ℕ) (set : IsSet file s missed) (rests : Rests file slots s missed text) (limit : s.passed ≤ 4000000) where
  abbrev taken : List (Taken ℕ)
  taken = taken_of file slots

  clear : HasNoClash 0 gf256_product s.k s.m (taken_of file slots) (one_past (taken_of file slots))
  clear = subst (HasNoClash 0 gf256_product s.k s.m taken) rests.passed rests.ready.stands.history.no_clash

  missed_below : (i : ℕ) → known_end (taken_of file slots) ≤ i → i < length (values_now s (taken_of file slots)) → is_none (get_or (values_now s (taken_of file slots)) i None) ≡ false
  missed_below i le lt =
      not_none (get_or (values_now s taken) i None) (λ none.
      let at : value_at s.k s.m s.deadline (taken_of file slots) s.passed i ≡ Some None = put_values-at s.k s.m s.deadline taken s.passed i lt ∙ ap Some none in
      let within : i < s.passed = omega (arith, lt, put_values-le s.k s.m s.deadline taken s.passed) in
      let gone : IsSettled 0 gf256_product s.k s.m s.deadline (taken_of file slots) s.passed i None = value_at-settled s.k s.m s.deadline taken s.passed i None rests.ready.stands.history.no_clash within at in
      absurd (omega (arith, gone.is_over, rests.passed, rests.claim_near, set.deadline, le)))

  -- what is left begins with what was put out
  pub left_begins : (s' : Repairer) → s' ≡ record s { finished = true } → width_in slots ≡ s.m
      → (values_by s' (taken_of file slots) ≡ last_values file slots) × (end_of s' (taken_of file slots) ≡ known_end (taken_of file slots)) × (s'.next ≤ length (values_by s' (taken_of file slots)))
      × Done (take s'.next (values_by s' (taken_of file slots))) (end_of s' (taken_of file slots)) missed text
  left_begins s' same width =
      let begin = outcomes-begin s.k s.m s.deadline taken (one_past taken) (AllBelow-one_past taken) clear in
      let now : put_values s.k s.m s.deadline (taken_of file slots) (one_past (taken_of file slots)) ≡ values_now s (taken_of file slots) = ap (put_values s.k s.m s.deadline taken) (sym rests.passed) in
      let whole : outcomes s.k s.m s.deadline (taken_of file slots) (one_past (taken_of file slots)) ≡ values_now s (taken_of file slots) ++ begin.0 = begin.1 ∙ ap (λ l. l ++ begin.0) now in
      let by : values_by s' (taken_of file slots) ≡ outcomes s.k s.m s.deadline (taken_of file slots) (one_past (taken_of file slots)) = ap (λ (r : Repairer). values_by r taken) same in
      let end : end_of s' (taken_of file slots) ≡ known_end (taken_of file slots) = ap (λ (r : Repairer). end_of r taken) same in
      let next : s'.next ≡ length (values_now s (taken_of file slots)) = ap (λ (r : Repairer). r.next) same ∙ rests.ready.next in
      let front : take s'.next (values_by s' (taken_of file slots)) ≡ values_now s (taken_of file slots) = ap (take s'.next) (by ∙ whole) ∙ take_at (values_now s taken) begin.0 s'.next (sym next) in
      let size : length (values_now s (taken_of file slots)) ≤ s.passed = put_values-le s.k s.m s.deadline taken s.passed in
      let d = rests.ready.done in
      let count : count_by is_none (take 4000000 (values_now s (taken_of file slots))) ≡ count_by is_none (take (known_end (taken_of file slots)) (values_now s (taken_of file slots))) =
      all_counted (values_now s taken) s.passed 4000000 (known_end taken) size limit
      ∙ counted_below (values_now s taken) (known_end taken) (length (values_now s taken)) missed_below in (
        by ∙ ap (λ k. outcomes k s.m s.deadline taken (one_past taken)) set.k ∙ ap (λ m. outcomes file.code.k m s.deadline taken (one_past taken)) (sym width) ∙ ap (λ d. outcomes file.code.k (width_in slots) d taken (one_past taken)) set.deadline,
        end,
        longer s'.next (length (values_now s taken)) (length begin.0) (length (values_by s' taken)) next (ap length (by ∙ whole) ∙ length-append (values_now s taken) begin.0),
        subst (λ l. Done l (end_of s' taken) missed text) (sym front) (subst (λ e. Done (values_now s taken) e missed text) (sym end) (record { good = d.good; counted = d.counted ∙ count; is_text = d.is_text })),
      )

-- ---- what is due

-- what was put behind nothing, before a flush
all_due : (values : List (Option (List (List ℕ)))) (end : ℕ) (a b : Told) (before after : List ℕ) (missed : ℕ) (text : List ℕ) (all : Option ℕ) → AllGives values end a b before after missed text (Ok all)
    → (more : List ℕ) × GivesMore a b more before after × (text ++ more ≡ due_text (bad_among values) values)
all_due values end a b before after missed text None y = (y.more, y.gives, y.done.is_text ∙ ap (λ o. due_text o values) (sym (bad_among-lacks values y.done.good)))
all_due values end a b before after missed text (Some t) y = (y.more, y.gives, y.is_text ∙ ap (λ o. due_text o values) (sym (bad_due values t y.first)))

-- a write failed within what is due
pub record Falls (due : List ℕ) (old new : Told) (text : List ℕ) : Type 0 where
  pub put : List ℕ
  pub moves : Moves old new [] put
  pub left : new.left ≡ old.left
  pub short : IsProperPrefix (text ++ put) due
  pub rose : Rose old.write_faults new.write_faults

falls : (due : List ℕ) (a b : Told) (text more : List ℕ) → LosesMore a b more [] → IsPrefix (text ++ more) due → Falls due a b text
falls due a b text more l p = record {
  put = l.gives.put;
  moves = l.gives.puts.moves;
  left = l.gives.puts.left;
  short = record {
    rest = l.lacking ++ p.rest;
    parts = p.parts ∙ ap (λ x. (text ++ x) ++ p.rest) l.gives.parts ∙ ap (λ x. x ++ p.rest) (sym (append_assoc text l.gives.put l.lacking)) ∙ append_assoc (text ++ l.gives.put) l.lacking p.rest;
    more = omega (arith, l.short, length-append l.lacking p.rest);
  };
  rose = l.rose;
}

prefix_same : (text due : List ℕ) → text ≡ due → IsPrefix text due
prefix_same text due e = record { rest = []; parts = sym e ∙ sym (append-nil text) }

-- all that was put was written
whole_put : (a c : Told) (more : List ℕ) → GivesMore a c more [] [] → Moves a c [] more × (c.left ≡ a.left)
whole_put a c more g = (subst (Moves a c []) (sym (append-nil g.put) ∙ sym g.parts) g.puts.moves, g.puts.left)

module _ (file : CodeFile) (slots : List Slot) (s s' : Repairer) (missed : ℕ) (text : List ℕ) (set : IsSet file s missed) (rests : Rests file slots s missed text) (limit : s.passed ≤ 4000000) (same : s' ≡ record s { finished = true }) (width : width_in slots ≡ s.m) where
  abbrev here : List (Taken ℕ)
  here = taken_of file slots

  begins : (values_by s' (taken_of file slots) ≡ last_values file slots) × (end_of s' (taken_of file slots) ≡ known_end (taken_of file slots)) × (s'.next ≤ length (values_by s' (taken_of file slots)))
      × Done (take s'.next (values_by s' (taken_of file slots))) (end_of s' (taken_of file slots)) missed text
  begins = left_begins file slots s missed text set rests limit s' same width

  module _ (a b : Told) (after : List ℕ) (missed' : ℕ) where
    -- a write failed while they were put out
    pub left_loses : LosesTo (values_by s' (taken_of file slots)) a b [] text → LosesLeft file slots a b text
    left_loses y =
        let y' : LosesTo (last_values file slots) a b [] text = subst (λ v. LosesTo v a b [] text) begins.0 y in
        let f = falls (due_text (bad_among (last_values file slots)) (last_values file slots)) a b text y'.more y'.loses (due-front (last_values file slots) y'.n (text ++ y'.more) y'.good y'.is_text) in
        record { put = f.put; moves = f.moves; left = f.left; short = f.short; rose = f.rose }

    module _ (all : Option ℕ) (given : AllGives (values_by s' (taken_of file slots)) (end_of s' (taken_of file slots)) a b [] after missed' text (Ok all)) where
      given' : AllGives (last_values file slots) (known_end (taken_of file slots)) a b [] after missed' text (Ok all)
      given' = subst (λ e. AllGives (last_values file slots) e a b [] after missed' text (Ok all)) begins.1 (subst (λ v. AllGives v (end_of s' here) a b [] after missed' text (Ok all)) begins.0 given)

      -- or when it was flushed
      pub left_fails : (c : Told) (waits : List ℕ) → FlushFailed after waits b c → LosesLeft file slots a c text
      left_fails c waits failed =
          let due = all_due (last_values file slots) (known_end here) a b [] after missed' text all given' in
          let f = falls (due_text (bad_among (last_values file slots)) (last_values file slots)) a c text due.0 (last_failed a b c due.0 [] after waits due.1 failed) (prefix_same (text ++ due.0) _ due.2) in
          record { put = f.put; moves = f.moves; left = f.left; short = f.short; rose = f.rose }

    -- all were put out
    pub left_given : (c : Told) (end : ℕ) → end ≡ known_end (taken_of file slots) → AllGives (values_by s' (taken_of file slots)) (end_of s' (taken_of file slots)) a b [] after missed' text (Ok None) → PutsWhole b c after
        → GivesLeft file slots a c text missed' end
    left_given c end e given flushed =
        let y = given' None given in
        let w = whole_put a c y.more (last_given a b c y.more [] after y.gives flushed) in
        record {
          more = y.more;
          moves = w.0;
          left = w.1;
          good = bad_among-lacks (last_values file slots) y.done.good;
          parts = sym y.done.is_text;
          end_is = e;
          counted = y.done.counted ∙ ap (count_by is_none) (outcomes-take file.code.k (width_in slots) file.channel.t here (known_end here) (one_past here) (known_end-le here));
        }

    -- or one is bad
    pub left_refused : (c : Told) (t : ℕ) → AllGives (values_by s' (taken_of file slots)) (end_of s' (taken_of file slots)) a b [] after missed' text (Ok (Some t)) → PutsWhole b c after
        → RefusesLeft file slots a c text (BadBlock t)
    left_refused c t given flushed =
        let y = given' (Some t) given in
        let w = whole_put a c y.more (last_given a b c y.more [] after y.gives flushed) in
        record {
          more = y.more;
          moves = w.0;
          left = w.1;
          refused = record { fault = BadBlock t; values = take t (last_values file slots) };
          is_why = bad_due (last_values file slots) t y.first;
          is_fault = refl;
          parts = sym y.is_text;
        }

-- ---- of records

same_numbers : (a a' b b' c c' d d' : ℕ) → a ≡ a' → b ≡ b' → c ≡ c' → d ≡ d' → (let x : Repaired = record { end = a; missed = b; strangers = c; repeats = d } in x) ≡ record { end = a'; missed = b'; strangers = c'; repeats = d' }
same_numbers a a' b b' c c' d d' ea eb ec ed =
    ap (λ x. let y : Repaired = record { end = x; missed = b; strangers = c; repeats = d } in y) ea
    ∙ ap (λ x. let y : Repaired = record { end = a'; missed = x; strangers = c; repeats = d } in y) eb
    ∙ ap (λ x. let y : Repaired = record { end = a'; missed = b'; strangers = x; repeats = d } in y) ec
    ∙ ap (λ x. let y : Repaired = record { end = a'; missed = b'; strangers = c'; repeats = x } in y) ed

repeats_are : (file : CodeFile) (records : List Record) (repeats : ℕ) → length (slots_in file records) ≡ length (taken_of file (slots_in file records)) + repeats → repeats ≡ length (slots_in file records) - length (taken_of file (slots_in file records))
repeats_are file records repeats e = omega (arith, e)

none_last : (file : CodeFile) → last_values file [] ≡ []
none_last file = nil_from_length (last_values file []) (outcomes-length file.code.k 0 file.channel.t [] 0)

none_missed : (file : CodeFile) → missed_of file [] ≡ 0
none_missed file = ap (count_by is_none) (nil_from_length (outcomes file.code.k 0 file.channel.t [] 0) (outcomes-length file.code.k 0 file.channel.t [] 0))

-- where no slot came
pub none_left : (file : CodeFile) (records : List Record) (counts : Counts) (a : Told) → IsGoing file None counts → Knows file records None counts
    → GivesLast file records a a (record { end = 0; missed = counts.missed; strangers = counts.strangers; repeats = counts.repeats })
none_left file records counts a going k =
    let slots_none : slots_in file records ≡ [] = k.keeps.0 in
    let text_none : values_text (values_so_far file records) ≡ [] = k.keeps.1 in
    let last_none : last_values file (slots_in file records) ≡ [] = ap (last_values file) slots_none ∙ none_last file in
    record {
      more = [];
      moves = Moves-none a;
      left = refl;
      good = ap bad_among last_none;
      parts = ap values_text last_none ∙ sym (append-nil (values_text (values_so_far file records)) ∙ text_none);
      answered = same_numbers 0 (known_end (taken_of file (slots_in file records))) counts.missed (missed_of file (slots_in file records)) counts.strangers _ counts.repeats _
          (sym (ap (λ l. known_end (taken_of file l)) slots_none))
          (going ∙ sym (ap (missed_of file) slots_none ∙ none_missed file)) k.strangers (repeats_are file records counts.repeats k.repeats);
    }

-- where some came
pub some_left : (file : CodeFile) (records : List Record) (s : Repairer) (counts : Counts) (missed' : ℕ) (a b : Told) (end : ℕ) → Knows file records (Some s) counts → GivesLeft file (slots_in file records) a b (values_text (values_so_far file records)) missed' end
    → GivesLast file records a b (record { end = end; missed = missed'; strangers = counts.strangers; repeats = counts.repeats })
some_left file records s counts missed' a b end k g = record {
  more = g.more;
  moves = g.moves;
  left = g.left;
  good = g.good;
  parts = g.parts;
  answered = same_numbers end _ missed' _ counts.strangers _ counts.repeats _ g.end_is g.counted k.strangers (repeats_are file records counts.repeats k.repeats);
}

pub left_last : (file : CodeFile) (records : List Record) (a b : Told) (missed' : ℕ) (fault : RepairEnd) → LeftGives file (slots_in file records) a b (values_text (values_so_far file records)) missed' (Err fault) → LastGives file records a b (Err fault)
left_last file records a b missed' Write g = record { put = g.put; moves = g.moves; left = g.left; short = g.short; rose = g.rose }
left_last file records a b missed' (BadBlock t) g = record { more = g.more; moves = g.moves; left = g.left; refused = g.refused; is_why = g.is_why; is_fault = g.is_fault; parts = g.parts }
left_last file records a b missed' (Dump f) g = g
left_last file records a b missed' TooManyRecords g = g
left_last file records a b missed' (WrongCode i) g = g
left_last file records a b missed' (BadShape i) g = g
left_last file records a b missed' (TooManySlots i) g = g
left_last file records a b missed' (Unfit u) g = g
left_last file records a b missed' (Clash i) g = g
left_last file records a b missed' Memory g = g

-- no more was missed than was put out
pub going_few : (file : CodeFile) (kept : Option Repairer) (counts : Counts) → IsGoing file kept counts → IsFewOf kept counts.missed
going_few file None counts going = tt
going_few file (Some s) counts set = set.few
