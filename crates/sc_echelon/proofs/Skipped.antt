-- What need not be looked at: a row is not changed where its entry in the column is a zero already.
use Rattle.std.proofs.Common.{◌≡◌, ℕ, zero as naught, suc, ◌+◌, ◌<◌, ◌≤◌, Bool, false, List, length, get_or, set, Option, Some, inl, inr, refl, sym, ◌∙◌, ap, ap₂, subst, arith}
use Rattle.std.proofs.lemmas.List.{length-set, get_or_default, get_or-set_same, get_or-set_other, ext_get_or}
use Rattle.std.proofs.lemmas.Bool.{cases_eq, cases_lt, cases_Bool}
use Rattle.sc_field.specs.Field.{IsField}
use Rattle.sc_field.specs.FieldLemmas.{sub_self}
use Rattle.sc_matrix.specs.Module.{IsModule}
use Rattle.sc_matrix.specs.Vector.{IsVector, add_vectors}
use Rattle.sc_matrix.proofs.Modules.{field_module, vector_module}
use Rattle.sc_echelon.specs.Equation.{Row, IsRow}
use Rattle.sc_echelon.specs.Table.{slot}
use Rattle.sc_echelon.specs.Steps.{entry, plus_row, times_row, cleared, clear_at, eliminate, reduce}
use Rattle.sc_echelon.specs.Storage.{place, table_of, ChangedBelow, HasRows, IsLoneUnless, IsZeroOutside}
use Rattle.sc_echelon.specs.Touched.{IsZeroBut}
use Rattle.sc_echelon.proofs.RowOperations.{negative_element, entry_element, IsRow-plus_row, entry-plus_zero, entry-cleared}
use Rattle.sc_echelon.proofs.Settle.{cases_option}
use Rattle.sc_echelon.proofs.StoredSteps.{slot_on, slot_row}

-- rows of the same width and as many columns
pub HasRows-same : {A : Type 0} {IsElement : A → Type 0} {n w : ℕ} (used : List Bool) (rows : List (Row A (List ℕ))) (k v : ℕ) → k ≡ n → v ≡ w → HasRows IsElement n w used rows → HasRows IsElement k v used rows
HasRows-same {IsElement = IsElement} {n = n} used rows k v e f h =
    subst (λ (i : ℕ). HasRows IsElement i v used rows) (sym e) (subst (λ (i : ℕ). HasRows IsElement n i used rows) (sym f) h)

module _ {A V : Type 0} {IsElement : A → Type 0} {zero one : A} {add sub mul : A → A → A} {inv : A → A} {IsValue : V → Type 0} {none : V} {plus : V → V → V} {times : A → V → V} (laws : IsField IsElement zero one add sub mul inv) (ml : IsModule IsElement zero one add mul IsValue none plus times) (n : ℕ) where
  -- nothing is added
  plus_row-none : (r q : Row A V) → IsRow IsElement IsValue n r → IsRow IsElement IsValue n q → plus_row add mul plus times r (sub zero zero) q ≡ r
  plus_row-none r q hr hq =
      let rows = vector_module (field_module laws) n in
      let vr : IsVector IsElement n r.coeffs = record { width = hr.width; entries = hr.elements } in
      let vq : IsVector IsElement n q.coeffs = record { width = hq.width; entries = hq.elements } in
      ap (λ (x : A). plus_row add mul plus times r x q) (sub_self laws zero laws.zero_element)
      ∙ ap₂ (λ (cs : List A) (v : V). record { coeffs = cs; right = v })
      (ap (add_vectors add r.coeffs) (rows.times_zero q.coeffs vq) ∙ rows.plus_none r.coeffs vr)
      (ap (plus r.right) (ml.times_zero q.right hq.value) ∙ ml.plus_none r.right hr.value)

  -- nothing is changed by one
  pub times_row-one : (r : Row A V) → IsRow IsElement IsValue n r → times_row mul times one r ≡ r
  times_row-one r hr =
      let rows = vector_module (field_module laws) n in
      ap₂ (λ (cs : List A) (v : V). record { coeffs = cs; right = v }) (rows.times_one r.coeffs (record { width = hr.width; entries = hr.elements })) (ml.times_one r.right hr.value)

  pub cleared-zero : (r q : Row A V) (p : ℕ) → IsRow IsElement IsValue n r → IsRow IsElement IsValue n q → entry zero r p ≡ zero → cleared zero add sub mul plus times r p q ≡ r
  cleared-zero r q p hr hq e = ap (λ (x : A). plus_row add mul plus times r (sub zero x) q) e ∙ plus_row-none r q hr hq

  -- the coefficients cleared by a row that is one at column p and zero elsewhere
  pub coeffs-cleared_lone : (r q : Row A V) (p : ℕ) → IsRow IsElement IsValue n r → IsRow IsElement IsValue n q → p < n → get_or q.coeffs p zero ≡ one → IsZeroBut zero p q.coeffs
      → (cleared zero add sub mul plus times r p q).coeffs ≡ set r.coeffs p zero
  coeffs-cleared_lone r q p hr hq l is zeros =
      let x : A = sub zero (entry zero r p) in
      let hx = negative_element laws ml (entry zero r p) (entry_element laws ml n r p hr l) in
      let made = IsRow-plus_row laws ml n r q x hr hq hx in
      let wm = made.width in
      let wr = hr.width in
      let ws = length-set r.coeffs p zero in
      ext_get_or zero (plus_row add mul plus times r x q).coeffs (set r.coeffs p zero) (omega arith)
      (λ j h. elim (cases_eq j p) [
        | inl e ↦
            (ap (entry zero (plus_row add mul plus times r x q)) e ∙ entry-cleared laws ml n r q p hr hq l is
            ∙ sym (ap (λ (i : ℕ). get_or (set r.coeffs p zero) i zero) e ∙ get_or-set_same r.coeffs p zero zero (omega arith)))
        | inr ne ↦ (entry-plus_zero laws ml n r q x j hr hq hx (omega arith) (zeros j ne) ∙ sym (get_or-set_other r.coeffs p j zero zero ne))
      ])

  -- columns where the row that is left is zero
  pub reduce-zeros : (t : List (Option (Row A V))) (q m : Row A V) (k d : ℕ) → ((i : ℕ) (r : Row A V) → slot t i ≡ Some r → IsRow IsElement IsValue n r) → IsRow IsElement IsValue n m → m ≡ reduce zero add sub mul plus times t k q
      → ((j : ℕ) → k ≤ j → j < k + d → entry zero m j ≡ zero) → m ≡ reduce zero add sub mul plus times t (k + d) q
  reduce-zeros t q m k naught rows hm e zeros = e ∙ ap (λ (i : ℕ). reduce zero add sub mul plus times t i q) (omega arith)
  reduce-zeros t q m k (suc d) rows hm e zeros =
      let before : m ≡ reduce zero add sub mul plus times t (k + d) q = reduce-zeros t q m k d rows hm e (λ j a b. zeros j a (omega arith)) in
      let next : suc (k + d) ≡ k + suc d = omega arith in
      elim (cases_option (slot t (k + d))) [
        | inl free ↦ sym (ap (λ (o : Option (Row A V)). eliminate zero add sub mul plus times o (k + d) m) free)
        | inr (r, full) ↦
            sym (ap (λ (o : Option (Row A V)). eliminate zero add sub mul plus times o (k + d) m) full
            ∙ cleared-zero m r (k + d) hm (rows (k + d) r full) (zeros (k + d) (omega arith) (omega arith)))
      ]
      ∙ ap (λ (s : Row A V). eliminate zero add sub mul plus times (slot t (k + d)) (k + d) s) before
      ∙ ap (λ (i : ℕ). reduce zero add sub mul plus times t i q) next

  -- rows that have a zero in the column
  module _ (p : ℕ) (by : Row A V) (hby : IsRow IsElement IsValue n by) (used : List Bool) (old : List (Row A V)) (count : length old ≡ length used) (rows : (i : ℕ) (r : Row A V) → slot (table_of used old) i ≡ Some r → IsRow IsElement IsValue n r) where
    same-place : (i : ℕ) (d : Row A V) → i < length old → ((r : Row A V) → slot (table_of used old) i ≡ Some r → entry zero r p ≡ zero)
        → place (get_or used i false) (get_or old i d) ≡ clear_at zero add sub mul plus times p by (place (get_or used i false) (get_or old i d))
    same-place i d l zeros = elim (cases_Bool (get_or used i false)) [
      | inl on ↦
          (let full : slot (table_of used old) i ≡ Some (get_or old i d) = slot_on used old count i (get_or old i d) (omega arith) on (get_or_default old i d (get_or old i d) l) in
          ap (λ (b : Bool). place b (get_or old i d)) on
          ∙ sym (ap (λ (b : Bool). clear_at zero add sub mul plus times p by (place b (get_or old i d))) on
          ∙ ap Some (cleared-zero (get_or old i d) by p (rows i (get_or old i d) full) hby (zeros (get_or old i d) full))))
      | inr off ↦
          ap (λ (b : Bool). place b (get_or old i d)) off
          ∙ sym (ap (λ (b : Bool). clear_at zero add sub mul plus times p by (place b (get_or old i d))) off)
    ]

    module _ (first end : ℕ) (outside : IsZeroOutside zero first end p (table_of used old)) where
      pub changed-from : ChangedBelow (clear_at zero add sub mul plus times p by) used old first old
      changed-from = record { count = refl; done = λ i d l m. same-place i d m (λ r full. outside.before i r full l); left = λ i d l m. refl }

      pub changed-to : (new : List (Row A V)) → ChangedBelow (clear_at zero add sub mul plus times p by) used old end new → ChangedBelow (clear_at zero add sub mul plus times p by) used old (length used) new
      changed-to new h = record {
        count = h.count;
        done = λ i d l m. elim (cases_lt i end) [
          | inl low ↦ h.done i d low m
          | inr high ↦ (ap (place (get_or used i false)) (h.left i d high m) ∙ same-place i d m (λ r full. outside.after i r full high))
        ];
        left = λ i d l m. absurd (omega arith);
      }

-- Rows before place p that are known to have a zero in its column, one after another.
module _ {A V : Type 0} (zero : A) (p : ℕ) (mixed used : List Bool) (rows : List (Row A V)) (count : length rows ≡ length used) where
  pub outside_lone : (k m : ℕ) → m ≤ p → ((i : ℕ) → k ≤ i → i < m → get_or mixed i false ≡ false) → IsLoneUnless zero mixed (table_of used rows) → IsZeroOutside zero k p p (table_of used rows) → IsZeroOutside zero m p p (table_of used rows)
  outside_lone k m fits off lone h = record {
    before = λ i r e l. elim (cases_lt i k) [
      | inl low ↦ h.before i r e low
      | inr high ↦ lone i p r e (off i high l) (omega arith)
    ];
    after = h.after;
  }

  pub outside_row : (k : ℕ) (q : Row A V) → k < length used → q ≡ get_or rows k q → get_or q.coeffs p zero ≡ zero → IsZeroOutside zero k p p (table_of used rows) → IsZeroOutside zero (k + 1) p p (table_of used rows)
  outside_row k q l is none h = record {
    before = λ i r e b. elim (cases_eq i k) [
      | inl s ↦
          (let full : slot (table_of used rows) k ≡ Some r = ap (slot (table_of used rows)) (sym s) ∙ e in
          ap (λ (x : Row A V). get_or x.coeffs p zero) (sym (slot_row used rows count k q r l is full)) ∙ none)
      | inr ne ↦ h.before i r e (omega arith)
    ];
    after = h.after;
  }
