-- The first fault of a table, and that bytes have one answer, whatever the form.
use Rattle.std.proofs.Common.{◌≡◌, ◌≢◌, ℕ, Bool, true, false, List, [], ◌∷◌, Option, Some, None, is_none, refl, sym, ap, ◌∙◌}
use Rattle.std.specs.Bool.{⊤}
use Rattle.std.proofs.lemmas.Bool.{true≢false}
use Rattle.std.proofs.lemmas.Option.{none-some, same_Some}
use Rattle.serde_json.specs.Data.{Data}
use Rattle.sc_codefile.specs.declared.fault.FileFault.{FileFault}
use Rattle.sc_codefile.specs.declared.fault.FileFault.TheVariants.{NotJson, Shape, Range, Memory}
use Rattle.sc_codefile.specs.Value.{IsValueOf}
use Rattle.sc_codefile.specs.Fault.{first_of, IsFirstFault, IsRefusedFor}

-- no fault of a table is there
abbrev pub AreClear : List (Bool × FileFault) → Type 0
AreClear [] = ⊤
AreClear (row ∷ rows) = (row.0 ≡ false) × AreClear rows

pub none_from_clear : (rows : List (Bool × FileFault)) → AreClear rows → first_of rows ≡ None
none_from_clear [] clear = refl
none_from_clear ((b, fault) ∷ rows) clear = rw clear.0 (none_from_clear rows clear.1)

pub clear_from_none : (rows : List (Bool × FileFault)) → first_of rows ≡ None → AreClear rows
clear_from_none [] none = tt
clear_from_none ((true, fault) ∷ rows) none = absurd (none-some fault (sym none))
clear_from_none ((false, fault) ∷ rows) none = (refl, clear_from_none rows none)

pub is_some_value : {A : Type 0} (o : Option A) → is_none o ≡ false → (x : A) × (o ≡ Some x)
is_some_value None e = absurd (true≢false e)
is_some_value (Some x) e = (x, refl)

same_value : (text : List ℕ) (d e : Data) → IsValueOf text d → IsValueOf text e → d ≡ e
same_value text d e is too = same_Some _ _ (sym is.is_read ∙ too.is_read)

module _ (faults : Data → List (Bool × FileFault)) where
  clear_or_fault : (text : List ℕ) (fault : FileFault) (value : Data) → IsValueOf text value → first_of (faults value) ≡ None → IsFirstFault faults text fault → ⊥
  clear_or_fault text fault value is clear faulty =
      none-some fault (sym clear ∙ ap (λ d. first_of (faults d)) (same_value text value faulty.value is faulty.is_value) ∙ faulty.first)

  -- bytes whose value has no fault are refused for want of memory alone
  pub refused-clear : (text : List ℕ) (fault : FileFault) (value : Data) → IsValueOf text value → first_of (faults value) ≡ None → IsRefusedFor faults text fault → fault ≡ Memory
  refused-clear text NotJson value is clear refused = absurd (refused value is)
  refused-clear text (Shape key) value is clear refused = absurd (clear_or_fault text (Shape key) value is clear refused)
  refused-clear text (Range key) value is clear refused = absurd (clear_or_fault text (Range key) value is clear refused)
  refused-clear text Memory value is clear refused = refl

  same_fault : (text : List ℕ) (fault other : FileFault) → IsFirstFault faults text fault → IsFirstFault faults text other → fault ≡ other
  same_fault text fault other is too =
      same_Some _ _ (sym is.first ∙ ap (λ d. first_of (faults d)) (same_value text is.value too.value is.is_value too.is_value) ∙ too.first)

  -- bytes have one fault beside want of memory
  pub same_refusal : (text : List ℕ) (fault other : FileFault) → IsRefusedFor faults text fault → IsRefusedFor faults text other
      → fault ≢ Memory → other ≢ Memory → fault ≡ other
  same_refusal text Memory other is too m n = absurd (m refl)
  same_refusal text NotJson NotJson is too m n = refl
  same_refusal text NotJson (Shape key) is too m n = absurd (is too.value too.is_value)
  same_refusal text NotJson (Range key) is too m n = absurd (is too.value too.is_value)
  same_refusal text NotJson Memory is too m n = absurd (n refl)
  same_refusal text (Shape key) NotJson is too m n = absurd (too is.value is.is_value)
  same_refusal text (Shape key) (Shape more) is too m n = same_fault text (Shape key) (Shape more) is too
  same_refusal text (Shape key) (Range more) is too m n = same_fault text (Shape key) (Range more) is too
  same_refusal text (Shape key) Memory is too m n = absurd (n refl)
  same_refusal text (Range key) NotJson is too m n = absurd (too is.value is.is_value)
  same_refusal text (Range key) (Shape more) is too m n = same_fault text (Range key) (Shape more) is too
  same_refusal text (Range key) (Range more) is too m n = same_fault text (Range key) (Range more) is too
  same_refusal text (Range key) Memory is too m n = absurd (n refl)
