-- The steps of repairing: a record is a stranger, is refused, or is a slot.
use Rattle.std.proofs.Common.{◌≡◌, ℕ, ◌+◌, ◌<◌, Bool, cond, if◌then◌else◌, Some, None, List, [], ◌∷◌, ◌++◌, length, count_by, Option, Result, Ok, Err, refl, sym, ap, ◌∙◌, subst, arith, inl, inr, append-nil, length-append}
use Rattle.std.proofs.lemmas.Bool.{lt-leb}
use Rattle.std.proofs.lemmas.List.Sums.{sum_by_push}
use Rattle.sc_outside.specs.declared.error.Failed.{Failed}
use Rattle.sc_outside.specs.Port.{Told}
use Rattle.sc_rtpdump.specs.Record.{Record}
use Rattle.sc_code.specs.declared.code.CodeFile.{CodeFile}
use Rattle.sc_slots.specs.ProtectSteps.{GivesMore}
use Rattle.sc_slots.specs.Slot.{Slot, Reading, stranger, slot}
use Rattle.sc_slots.specs.Taken.{taken_slot}
use Rattle.sc_slots.proofs.FlushSteps.{GivesMore-none}
use Rattle.sc_repair.specs.declared.repair.Counts.{Counts}
use Rattle.sc_repair.specs.declared.repair.RepairEnd.{RepairEnd}
use Rattle.sc_repair.specs.declared.repair.RepairEnd.TheVariants.{Dump, TooManyRecords, WrongCode, BadShape, TooManySlots, Unfit, Clash, BadBlock, Write, Memory}
use Rattle.sc_repair.specs.Repairer.{Repairer}
use Rattle.sc_repair.specs.Repairing.{first_of, values_text, slots_of, is_stranger, read_as, slots_in, taken_of, values_of, values_so_far, still, slot_refusal, reading_refusal, refusal, first_refused}
use Rattle.sc_repair.specs.RepairSteps.{IsRefused, due_text, FallsShort, Keeps, Knows, ComesIn, CountsSlot, ComesCounts, RecordGives}
use Rattle.sc_repair.proofs.Growth.{slots_in-push, taken_of-push, taken_of-repeat, first_refused-push}
use Rattle.sc_repair.proofs.ComeSteps.{still_text}
use Rattle.sc_repair.proofs.PlaceSteps.{none_put}

module _ (file : CodeFile) (records : List Record) (e : Record) (few : length records < 8000000) where
  abbrev slots : List Slot
  slots = slots_in file records

  -- why it is refused, by what it is read as
  pub refusal_is : (x : Reading) → read_as file e ≡ x → refusal file (length records) (slots_in file records) e ≡ reading_refusal file (length records) (slots_in file records) x
  unfolding refusal
  refusal_is x is =
      ap (λ (b : Bool). if b then Some (still file slots TooManyRecords) else reading_refusal file (length records) slots (read_as file e)) (lt-leb 8000000 (length records) few)
      ∙ ap (reading_refusal file (length records) slots) is

  slots_with : (x : Reading) → read_as file e ≡ x → slots_in file (records ++ e ∷ []) ≡ slots_in file records ++ slots_of x
  slots_with x is = slots_in-push file records e ∙ ap (λ r. slots ++ slots_of r) is

  accepted_with : first_refused file records ≡ None → refusal file (length records) (slots_in file records) e ≡ None → first_refused file (records ++ e ∷ []) ≡ None
  accepted_with ok none = first_refused-push file records e ∙ ap (λ o. first_of o (refusal file (length records) slots e)) ok ∙ none

  strangers_with : (x : Reading) → read_as file e ≡ x → count_by (λ r. is_stranger (read_as file r)) (records ++ e ∷ []) ≡ count_by (λ r. is_stranger (read_as file r)) records + cond (is_stranger x) 1 0
  strangers_with x is =
      sum_by_push (λ r. cond (is_stranger (read_as file r)) 1 0) records e ∙ ap (λ r. count_by (λ r. is_stranger (read_as file r)) records + cond (is_stranger r) 1 0) is

  -- a stranger
  pub stranger_gives : (kept : Option Repairer) (counts counts' : Counts) (a : Told) (before : List ℕ) → read_as file e ≡ stranger → Knows file records kept counts → counts'.missed ≡ counts.missed → counts'.repeats ≡ counts.repeats → counts'.strangers ≡ counts.strangers + 1
      → Knows file (records ++ e ∷ []) kept counts' × ((more : List ℕ) × GivesMore a a more before before × (values_text (values_so_far file (records ++ e ∷ [])) ≡ values_text (values_so_far file records) ++ more))
  stranger_gives kept counts counts' a before is k em er es =
      let same : slots_in file (records ++ e ∷ []) ≡ slots_in file records = slots_with stranger is ∙ append-nil slots in
      let text : values_text (values_so_far file (records ++ e ∷ [])) ≡ values_text (values_so_far file records) = ap (λ l. values_text (values_of file l)) same in (
        record {
          accepted = accepted_with k.accepted (refusal_is stranger is);
          keeps = subst (λ n. Keeps file (slots_in file (records ++ e ∷ [])) kept n (values_text (values_so_far file (records ++ e ∷ [])))) (sym em)
              (subst (λ l. Keeps file l kept counts.missed (values_text (values_of file l))) (sym same) k.keeps);
          strangers = es ∙ ap (λ n. n + 1) k.strangers ∙ sym (strangers_with stranger is);
          repeats = subst (λ l. length l ≡ length (taken_of file l) + counts'.repeats) (sym same) (k.repeats ∙ ap (λ n. length (taken_of file slots) + n) (sym er));
        },
        ([], GivesMore-none a before, text ∙ sym (append-nil (values_text (values_so_far file records)))),
      )

  -- refused for what it is read as
  pub reading_gives : (fault : RepairEnd) (x : Reading) (a : Told) (before : List ℕ) → read_as file e ≡ x → reading_refusal file (length records) (slots_in file records) x ≡ Some (still file (slots_in file records) fault)
      → IsRefused (refusal file (length records) (slots_in file records) e) a a before before (values_text (values_so_far file records)) fault
  reading_gives fault x a before is why = record {
    refused = still file slots fault;
    is_why = refusal_is x is ∙ why;
    is_fault = refl;
    more = [];
    gives = GivesMore-none a before;
    is_text = append-nil (values_text (values_so_far file records));
  }

  -- ---- a slot

  module _ (one : Slot) (is : read_as file e ≡ slot one) where
    with_slot : slots_in file (records ++ e ∷ []) ≡ slots_in file records ++ one ∷ []
    with_slot = slots_with (slot one) is

    repeats_with : (counts counts' : Counts) → length (slots_in file records) ≡ length (taken_of file (slots_in file records)) + counts.repeats → CountsSlot file one (slots_in file records) counts counts'
        → length (slots_in file records ++ one ∷ []) ≡ length (taken_of file (slots_in file records ++ one ∷ [])) + counts'.repeats
    repeats_with counts counts' n (inl x) = omega (arith, n, x.1, length-append slots (one ∷ []), ap length (taken_of-repeat file slots one x.0))
    repeats_with counts counts' n (inr x) =
        omega (arith, n, x.1, length-append slots (one ∷ []), ap length (taken_of-push file slots one x.0), length-append (taken_of file slots) (taken_slot file.code one ∷ []))

    abbrev text : List ℕ
    text = values_text (values_so_far file records)

    refused_with : (fault : RepairEnd) (a b : Told) (before after : List ℕ) → IsRefused (slot_refusal file (slots_in file records) one) a b before after (values_text (values_so_far file records)) fault
        → IsRefused (refusal file (length records) (slots_in file records) e) a b before after (values_text (values_so_far file records)) fault
    refused_with fault a b before after h = subst (λ w. IsRefused w a b before after text fault) (sym (refusal_is (slot one) is)) h

    -- what it answers is what the slot answers
    pub slot_gives : (kept kept' : Option Repairer) (counts counts' : Counts) (a b : Told) (before after : List ℕ) (result : Result (Result (Unit {0}) RepairEnd) Failed) → Knows file records kept counts → ComesCounts file one kept kept' counts counts' result
        → ComesIn file (slots_in file records) one kept' a b before after counts'.missed (values_text (values_so_far file records)) result → RecordGives file records e a b before after kept' counts' result
    slot_gives kept kept' counts counts' a b before after (Ok (Ok u)) k far x =
        let new : text ++ x.1.0 ≡ values_text (values_of file (slots_in file records ++ one ∷ [])) = still_text file (slots ++ one ∷ []) kept' counts' (text ++ x.1.0) far.0 x.1.2 in
        let all : values_text (values_so_far file (records ++ e ∷ [])) ≡ values_text (values_of file (slots_in file records ++ one ∷ [])) = ap (λ l. values_text (values_of file l)) with_slot in
        let none : counts.strangers + 0 ≡ counts.strangers = omega arith in (
          record {
            accepted = accepted_with k.accepted (refusal_is (slot one) is ∙ x.0);
            keeps = subst (λ l. Keeps file l kept' counts'.missed (values_text (values_of file l))) (sym with_slot) (subst (Keeps file (slots ++ one ∷ []) kept' counts'.missed) new x.1.2);
            strangers = far.1 ∙ sym none ∙ ap (λ n. n + 0) k.strangers ∙ sym (strangers_with (slot one) is);
            repeats = subst (λ l. length l ≡ length (taken_of file l) + counts'.repeats) (sym with_slot) (repeats_with counts counts' k.repeats (far.3 slots text k.keeps));
          },
          (x.1.0, x.1.1, all ∙ sym new),
        )
    slot_gives kept kept' counts counts' a b before after (Ok (Err Memory)) k far x = (ap (values_of file) x.0 ∙ none_put file.code.k 0 file.channel.t [], x.1)
    slot_gives kept kept' counts counts' a b before after (Ok (Err (Dump f))) k far x = refused_with (Dump f) a b before after x
    slot_gives kept kept' counts counts' a b before after (Ok (Err TooManyRecords)) k far x = refused_with TooManyRecords a b before after x
    slot_gives kept kept' counts counts' a b before after (Ok (Err (WrongCode i))) k far x = refused_with (WrongCode i) a b before after x
    slot_gives kept kept' counts counts' a b before after (Ok (Err (BadShape i))) k far x = refused_with (BadShape i) a b before after x
    slot_gives kept kept' counts counts' a b before after (Ok (Err (TooManySlots i))) k far x = refused_with (TooManySlots i) a b before after x
    slot_gives kept kept' counts counts' a b before after (Ok (Err (Unfit u))) k far x = refused_with (Unfit u) a b before after x
    slot_gives kept kept' counts counts' a b before after (Ok (Err (Clash i))) k far x = refused_with (Clash i) a b before after x
    slot_gives kept kept' counts counts' a b before after (Ok (Err (BadBlock i))) k far x = refused_with (BadBlock i) a b before after x
    slot_gives kept kept' counts counts' a b before after (Ok (Err Write)) k far x = refused_with Write a b before after x
    slot_gives kept kept' counts counts' a b before after (Err u) k far x =
        subst (λ w. FallsShort (due_text w (values_so_far file (records ++ e ∷ []))) a b before text) (sym (refusal_is (slot one) is))
        (subst (λ l. FallsShort (due_text (slot_refusal file slots one) (values_of file l)) a b before text) (sym with_slot) x)
