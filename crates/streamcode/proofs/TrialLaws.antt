-- `trial`, in the words of slots and of the streams that fit them.
use Rattle.std.proofs.Common.{◌≡◌, inl, inr, ℕ, zero as naught, suc, ◌==◌, ◌<◌, ◌≤◌, Bool, true, false, cond, nat_lt, Option, Some, None, is_none, List, [], ◌∷◌, length, slice_index_or, Ok, Err, refl, sym, ap, ◌∙◌, arith}
use Rattle.std.specs.Prelude.{count_by}
use Rattle.std.proofs.lemmas.Bool.{cases_lt}
use Rattle.std.proofs.lemmas.Bool.Decides.{nat_tests}
use Rattle.std.proofs.lemmas.List.Sums.{sum_by-cons}
use Rattle.sc_field.specs.Gf256.{gf256_product}
use Rattle.sc_outside.specs.Ends.{Due}
use Rattle.sc_code.specs.declared.code.CodeFile.{CodeFile}
use Rattle.sc_codefile.specs.Reading.{code_reading}
use Rattle.sc_slots.specs.Protected.{protection_of}
use Rattle.sc_slots.specs.Repair.{IsOutcome}
use Rattle.sc_trial.specs.declared.outcome.TrialFault.TheVariants.{TooWide}
use Rattle.sc_trial.specs.GeneratedLaws.{IsWithinLimits}
use Rattle.sc_trial.specs.Trial.{trial_taken, tried, IsTrial}
use Rattle.sc_trial.proofs.TrialSteps.{tried-is}
use Rattle.streamcode.specs.declared.end.Role.TheVariants.{Code}
use Rattle.streamcode.specs.declared.end.End.{End}
use Rattle.streamcode.specs.End.{missed_status, status_of}
use Rattle.streamcode.specs.Jobs.{trial_by, trial_job}
use Rattle.streamcode.specs.Plans.{owes, due_of}
use Rattle.streamcode.specs.Runs.{command_plan}
use Rattle.streamcode.specs.TrialLaws.{due_of_trial, WordsSayWhatIsTried, packet_of, FitsRecord, ComesBack, NumbersAreDue, ZeroIsAllRecovered, FiveIsSomeMissed, FourIsTooWide, WideIsTold}
use Rattle.streamcode.proofs.FileLaws.{due-file}
use Rattle.streamcode.proofs.RepairLaws.{done_status, none_by, some_by, status_some}

-- ---- what the words say
pub words-tried : WordsSayWhatIsTried
words-tried files words code file seed count size input asked h =
    ap (λ command. due_of (command_plan command) (Some files) input) asked
    ∙ due-file Code code_reading (λ file. owes (trial_job file seed count size)) files code h.bytes file input h.there h.short h.is

-- ---- how many values are missing
module _ {X : Type 0} where
  abbrev weight : Option X → ℕ
  weight v = cond (is_none v) 1 0

  -- where one is, the count isn't 0
  counted : (values : List (Option X)) (t : ℕ) → t < length values → slice_index_or values t None ≡ None → 1 ≤ count_by is_none values
  counted [] t small e = absurd (omega (arith, small))
  counted (v ∷ values) naught small e = let here : weight v ≡ 1 = ap weight e in omega (arith, here, sum_by-cons weight v values)
  counted (v ∷ values) (suc t) small e = omega (arith, counted values t (omega (arith, small)) e, sum_by-cons weight v values)

  -- and where it isn't 0, one is
  found : (values : List (Option X)) → 1 ≤ count_by is_none values → (t : ℕ) × (t < length values) × (slice_index_or values t None ≡ None)
  found [] some = absurd (omega (arith, some))
  found (None ∷ values) some = (0, omega arith, refl)
  found (Some x ∷ values) some =
      let behind = found values (omega (arith, some, sum_by-cons weight (Some x) values)) in
      (suc behind.0, omega (arith, behind.1), behind.2)

-- ---- statuses

not_four : (none : Bool) → done_status none ≡ 4 → ⊥
not_four true h = omega (arith, h)
not_four false h = omega (arith, h)

narrow_is : (n : ℕ) → n ≤ 65527 → nat_lt 65527 n ≡ false
narrow_is n h = grind (arith, nat_tests, h)

wide_is : (n : ℕ) → 65527 < n → nat_lt 65527 n ≡ true
wide_is n h = grind (arith, nat_tests, h)

module _ (file : CodeFile) (seed count size : ℕ) (input : List ℕ) where
  -- what is due by whether a protected packet is too wide
  abbrev due_by : Bool → Due End
  due_by wide = (trial_by (cond wide (Err (TooWide (packet_of file size))) (Ok (tried file seed count size)))).whole input

  due_narrow : FitsRecord file size → due_of_trial file seed count size input ≡ due_by false
  due_narrow fits = ap due_by (narrow_is (packet_of file size) fits)

  due_wide : 65527 < packet_of file size → due_of_trial file seed count size input ≡ due_by true
  due_wide wide = ap due_by (wide_is (packet_of file size) wide)

  status_narrow : FitsRecord file size → status_of (due_of_trial file seed count size input).answer ≡ missed_status (tried file seed count size).missed
  status_narrow fits = ap (λ (d : Due End). status_of d.answer) (due_narrow fits)

  status_wide : 65527 < packet_of file size → status_of (due_of_trial file seed count size input).answer ≡ 4
  status_wide wide = ap (λ (d : Due End). status_of d.answer) (due_wide wide)

  -- a status that isn't 4 is that of a trial that was made
  fits_by : (status : ℕ) → status_of (due_of_trial file seed count size input).answer ≡ status → (status ≡ 4 → ⊥) → FitsRecord file size
  fits_by status s other = elim (cases_lt 65527 (packet_of file size)) as (λ _. FitsRecord file size) [
    | inl wide ↦ absurd (other (sym s ∙ status_wide wide))
    | inr narrow ↦ narrow
  ]

  four_wide : status_of (due_of_trial file seed count size input).answer ≡ 4 → 65527 < packet_of file size
  four_wide s = elim (cases_lt 65527 (packet_of file size)) as (λ _. 65527 < packet_of file size) [
    | inl wide ↦ wide
    | inr narrow ↦ absurd (not_four ((tried file seed count size).missed == 0) (sym (status_narrow narrow) ∙ s))
  ]

  module _ (within : IsWithinLimits count size) where
    is : IsTrial file seed count size (tried file seed count size)
    is = tried-is file seed count size within

    abbrev Outcome : ℕ → Option (List (List ℕ)) → Type 0
    Outcome t value =
        IsOutcome 0 gf256_product file.code.k (protection_of file size).m file.channel.t (trial_taken file seed count size) t value

    -- a value says whether its packet comes back
    back_by : (t : ℕ) (value : Option (List (List ℕ))) → Outcome t value → (value ≡ None → ⊥) → ComesBack file seed count size t
    back_by t None outcome there = absurd (there refl)
    back_by t (Some block) outcome there = (block, outcome)

    none_back : (t : ℕ) (value : Option (List (List ℕ))) → Outcome t value → value ≡ None → ComesBack file seed count size t → ⊥
    none_back t None outcome e back = outcome back.0 back.1
    none_back t (Some block) outcome e back = cc e

    all_back : (tried file seed count size).missed ≡ 0 → (t : ℕ) → t < count → ComesBack file seed count size t
    all_back zero t small =
        back_by t (slice_index_or is.values t None) (is.outcomes t small)
        (λ none. omega (arith, counted is.values t (omega (arith, small, is.one_each)) none, is.missed, zero))

    one_missed : 1 ≤ (tried file seed count size).missed → (t : ℕ) × (t < count) × (ComesBack file seed count size t → ⊥)
    one_missed some =
        let there = found is.values (omega (arith, some, is.missed)) in
        let small : there.0 < count = omega (arith, there.1, is.one_each) in
        (there.0, small, none_back there.0 (slice_index_or is.values there.0 None) (is.outcomes there.0 small) there.2)

    none_missed : ((t : ℕ) → t < count → ComesBack file seed count size t) → (tried file seed count size).missed ≡ 0
    none_missed all = elim (cases_lt 0 (tried file seed count size).missed) as (λ _. (tried file seed count size).missed ≡ 0) [
      | inl some ↦ (let one = one_missed (omega (arith, some)) in absurd (one.2 (all one.0 one.1)))
      | inr none ↦ omega (arith, none)
    ]

    some_missed : (t : ℕ) → t < count → (ComesBack file seed count size t → ⊥) → 1 ≤ (tried file seed count size).missed
    some_missed t small not_back = elim (cases_lt 0 (tried file seed count size).missed) as (λ _. 1 ≤ (tried file seed count size).missed) [
      | inl some ↦ omega (arith, some)
      | inr none ↦ absurd (not_back (all_back (omega (arith, none)) t small))
    ]

-- ---- the laws
pub numbers-due : NumbersAreDue
numbers-due file seed count size input within fits = record {
  tried = tried file seed count size;
  is_trial = tried-is file seed count size within;
  given = due_narrow file seed count size input fits;
}

pub zero-all-recovered : ZeroIsAllRecovered
zero-all-recovered file seed count size input within = (
  λ s.
      (let fits = fits_by file seed count size input 0 s (λ e. omega (arith, e)) in
      let missed = (tried file seed count size).missed in
      (fits, all_back file seed count size input within (none_by missed (missed == 0) refl (sym (status_narrow file seed count size input fits) ∙ s)))),
  λ h. status_narrow file seed count size input h.0 ∙ ap missed_status (none_missed file seed count size input within h.1),
)

pub five-some-missed : FiveIsSomeMissed
five-some-missed file seed count size input within = (
  λ s.
      (let fits = fits_by file seed count size input 5 s (λ e. omega (arith, e)) in
      let missed = (tried file seed count size).missed in
      (fits, one_missed file seed count size input within (some_by missed (missed == 0) refl (sym (status_narrow file seed count size input fits) ∙ s)))),
  λ h. status_narrow file seed count size input h.0 ∙ status_some (tried file seed count size).missed (some_missed file seed count size input within h.1.0 h.1.1 h.1.2),
)

pub four-too-wide : FourIsTooWide
four-too-wide file seed count size input = (four_wide file seed count size input, status_wide file seed count size input)

pub wide-told : WideIsTold
wide-told file seed count size input wide = due_wide file seed count size input wide
