-- The steps of repairing: the first slot starts the repairer, and each record is what it is read as.
use Rattle.std.proofs.Common.{◌≡◌, ◌⊎◌, ℕ, ◌+◌, ◌<◌, ◌≤◌, Bool, false, Some, None, List, [], ◌∷◌, length, Option, Result, Ok, Err, if◌then◌else◌, nat_lt, refl, sym, ap, ◌∙◌, subst, arith, inl, inr, append-nil, length-append}
use Rattle.std.proofs.lemmas.Bool.{le-leb}
use Rattle.sc_slots.proofs.FlushSteps.{GivesMore-none}
use Rattle.sc_outside.specs.Port.{Told}
use Rattle.sc_code.specs.declared.code.CodeFile.{CodeFile}
use Rattle.sc_slots.specs.ProtectSteps.{GivesMore}
use Rattle.sc_slots.specs.Slot.{Slot}
use Rattle.sc_slots.specs.Taken.{one_past}
use Rattle.sc_repair.specs.declared.repair.Counts.{Counts}
use Rattle.sc_repair.specs.declared.repair.RepairEnd.{RepairEnd}
use Rattle.sc_repair.specs.declared.repair.RepairEnd.TheVariants.{Dump, TooManyRecords, WrongCode, BadShape, TooManySlots, Unfit, Clash, BadBlock, Write, Memory}
use Rattle.sc_repair.specs.Repairer.{Repairer}
use Rattle.sc_repair.specs.Repairing.{Refusal, values_text, taken_of, values_of, still, refusal_by, misfit, slot_refusal}
use Rattle.sc_repair.specs.Stands.{Stands}
use Rattle.sc_repair.specs.Steps.{Done}
use Rattle.sc_repair.specs.RepairSteps.{IsSet, values_now, IsRefused, Rests, PlaceGives, PlaceCounts, IsGoing, Keeps, Resumes, ComesIn, CountsSlot, ComesCounts}
use Rattle.sc_repair.specs.Values.{put_values}
use Rattle.sc_repair.proofs.PlaceSteps.{none_put, first_width}

-- ---- the repairer that goes on

-- what a new repairer is
abbrev pub IsNew : CodeFile → ℕ → Repairer → Type 0
IsNew file m s =
    Stands s [] × ((s.k ≡ file.code.k) × (s.r ≡ file.code.r) × (s.memory + 1 ≡ length file.code.lags))
    × ((s.deadline ≡ file.channel.t) × (s.m ≡ m) × (s.passed ≡ 0) × (s.next ≡ 0) × (s.finished ≡ false)) × (s.own ≡ file.code)

pub new_set : (file : CodeFile) (m : ℕ) (s : Repairer) → IsNew file m s → IsSet file s 0
new_set file m s h = record {
  k = h.1.0;
  r = h.1.1;
  lags = sym h.1.2;
  deadline = h.2.0;
  goes_on = h.2.4;
  near = omega (arith, h.2.2);
  few = omega arith;
  own = h.3;
}

new_rests : (file : CodeFile) (m : ℕ) (s : Repairer) → IsNew file m s → Rests file [] s 0 []
new_rests file m s h =
    let none : values_now s [] ≡ [] = ap (put_values s.k s.m s.deadline []) h.2.2 ∙ none_put s.k s.m s.deadline [] in
    record {
      ready = record {
        stands = h.0;
        next = h.2.3 ∙ sym (ap length none);
        done = subst (λ v. Done v 4000000 0 []) (sym none) (record { good = refl; counted = refl; is_text = refl });
      };
      passed = h.2.2;
      claim_near = omega arith;
    }

pub new_resumes : (file : CodeFile) (m missed : ℕ) (s : Repairer) → missed ≡ 0 → IsNew file m s → Resumes file None missed m s
new_resumes file m missed s zero h slots text one em keeps =
    let slots_none : slots ≡ [] = keeps.0 in
    let text_none : text ≡ [] = keeps.1 in
    rw (slots_none, text_none, zero) (new_rests file m s h, em ∙ sym h.2.1)

pub kept_resumes : (file : CodeFile) (m missed : ℕ) (s : Repairer) → Resumes file (Some s) missed m s
kept_resumes file m missed s slots text one em keeps = (
  keeps.0,
  elim (first_width slots one) [
    | inl none ↦ (let n : length slots ≡ 0 = ap length none in absurd (omega (arith, n, keeps.2)))
    | inr same ↦ same ∙ keeps.1
  ],
)

-- ---- a slot that comes

-- one beyond the limit
many_is : (file : CodeFile) (slots : List Slot) (one : Slot) → 4000000 ≤ one.number → slot_refusal file slots one ≡ Some (still file slots (TooManySlots one.number))
many_is file slots one le =
    ap (λ (b : Bool). if b then Some (still file slots (TooManySlots one.number)) else (if nat_lt one.number (one_past (taken_of file slots)) then None else refusal_by file slots one (misfit file slots one))) (le-leb 4000000 one.number le)

pub still_text : (file : CodeFile) (slots : List Slot) (kept : Option Repairer) (counts : Counts) (text : List ℕ) → IsGoing file kept counts → Keeps file slots kept counts.missed text → text ≡ values_text (values_of file slots)
still_text file slots None counts text going keeps =
    let slots_none : slots ≡ [] = keeps.0 in
    keeps.1 ∙ sym (rw slots_none (ap values_text (none_put file.code.k 0 file.channel.t [])))
still_text file slots (Some s) counts text set keeps =
    keeps.0.ready.done.is_text
    ∙ ap values_text (ap (λ k. put_values k s.m s.deadline (taken_of file slots) s.passed) set.k ∙ ap (λ d. put_values file.code.k s.m d (taken_of file slots) s.passed) set.deadline
    ∙ ap (put_values file.code.k s.m file.channel.t (taken_of file slots)) keeps.0.passed ∙ ap (λ m. put_values file.code.k m file.channel.t (taken_of file slots) (one_past (taken_of file slots))) (sym keeps.1))

-- refused after all that was put out, with nothing more
pub still_after : (file : CodeFile) (slots : List Slot) (kept : Option Repairer) (counts : Counts) (text : List ℕ) (why : Option Refusal) (fault : RepairEnd) (a : Told) (before : List ℕ) → IsGoing file kept counts → Keeps file slots kept counts.missed text
    → why ≡ Some (still file slots fault) → IsRefused why a a before before text fault
still_after file slots kept counts text why fault a before going keeps e = record {
  refused = still file slots fault;
  is_why = e;
  is_fault = refl;
  more = [];
  gives = GivesMore-none a before;
  is_text = append-nil text ∙ still_text file slots kept counts text going keeps;
}

pub many_gives : (file : CodeFile) (slots : List Slot) (one : Slot) (kept : Option Repairer) (counts : Counts) (text : List ℕ) (a : Told) (before : List ℕ) → IsGoing file kept counts → 4000000 ≤ one.number → Keeps file slots kept counts.missed text
    → IsRefused (slot_refusal file slots one) a a before before text (TooManySlots one.number)
many_gives file slots one kept counts text a before going le keeps = still_after file slots kept counts text (slot_refusal file slots one) (TooManySlots one.number) a before going keeps (many_is file slots one le)

refused_not_memory : (file : CodeFile) (slots : List Slot) (one : Slot) (kept' : Option Repairer) (a b : Told) (before after text : List ℕ) (missed : ℕ) (fault : RepairEnd) → (fault ≡ Memory → ⊥) → IsRefused (slot_refusal file slots one) a b before after text fault
    → ComesIn file slots one kept' a b before after missed text (Ok (Err fault))
refused_not_memory file slots one kept' a b before after text missed (Dump f) other h = h
refused_not_memory file slots one kept' a b before after text missed TooManyRecords other h = h
refused_not_memory file slots one kept' a b before after text missed (WrongCode i) other h = h
refused_not_memory file slots one kept' a b before after text missed (BadShape i) other h = h
refused_not_memory file slots one kept' a b before after text missed (TooManySlots i) other h = h
refused_not_memory file slots one kept' a b before after text missed (Unfit u) other h = h
refused_not_memory file slots one kept' a b before after text missed (Clash i) other h = h
refused_not_memory file slots one kept' a b before after text missed (BadBlock i) other h = h
refused_not_memory file slots one kept' a b before after text missed Write other h = h
refused_not_memory file slots one kept' a b before after text missed Memory other h = absurd (other refl)

module _ (file : CodeFile) (kept : Option Repairer) (counts counts' : Counts) (s s' : Repairer) (one : Slot) (resumes : Resumes file kept counts.missed one.m s) where
  pub come_gives : (slots : List Slot) (text : List ℕ) (a b : Told) (before after : List ℕ) (result : Result (Unit {0}) RepairEnd) → Keeps file slots kept counts.missed text → PlaceCounts file s s' one counts counts' (Ok result)
      → PlaceGives file s s' slots one a b before after counts'.missed text (Ok result) → ComesIn file slots one (Some s') a b before after counts'.missed text (Ok result)
  come_gives slots text a b before after (Ok u) keeps far x = (
    x.0,
    (x.1.more, x.1.gives, (x.1.rests, (resumes slots text one refl keeps).1 ∙ sym far.1, omega (arith, length-append slots (one ∷ [])))),
  )
  come_gives slots text a b before after (Err fault) keeps far x = refused_not_memory file slots one (Some s') a b before after text counts'.missed fault far x

  pub come_counts : (result : Result (Unit {0}) RepairEnd) → PlaceCounts file s s' one counts counts' (Ok result) → ComesCounts file one kept (Some s') counts counts' (Ok result)
  come_counts (Err fault) far = tt
  come_counts (Ok u) far = (
    far.0,
    far.2,
    more_repeats far.3,
    λ slots text keeps. by_past slots ((resumes slots text one refl keeps).0.passed) far.3,
  )
    where
      more_repeats : ((one.number < s.passed) × (counts'.repeats ≡ counts.repeats + 1)) ⊎ ((s.passed ≤ one.number) × (counts'.repeats ≡ counts.repeats)) → counts'.repeats ≤ counts.repeats + 1
      more_repeats (inl x) = omega (arith, x.1)
      more_repeats (inr x) = omega (arith, x.1)

      by_past : (slots : List Slot) → s.passed ≡ one_past (taken_of file slots) → ((one.number < s.passed) × (counts'.repeats ≡ counts.repeats + 1)) ⊎ ((s.passed ≤ one.number) × (counts'.repeats ≡ counts.repeats)) → CountsSlot file one slots counts counts'
      by_past slots e (inl x) = inl (omega (arith, x.0, e), x.1)
      by_past slots e (inr x) = inr (omega (arith, x.0, e), x.1)

-- there is no memory for a new one
pub come_lacks : (file : CodeFile) (slots : List Slot) (kept : Option Repairer) (missed : ℕ) (text : List ℕ) (a : Told) (before : List ℕ) → kept ≡ None → Keeps file slots kept missed text → (slots ≡ []) × GivesMore a a [] before before
come_lacks file slots kept missed text a before none keeps =
    let keeps' : Keeps file slots None missed text = subst (λ o. Keeps file slots o missed text) none keeps in
    (keeps'.0, GivesMore-none a before)
