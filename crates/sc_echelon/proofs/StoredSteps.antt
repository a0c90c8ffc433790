-- The steps of the loops that work on stored rows.
use Rattle.std.proofs.Common.{◌≡◌, ℕ, suc, ◌+◌, ◌<◌, ◌≤◌, Bool, true, false, List, length, get_or, set, All, Option, None, Some, inl, inr, sym, ◌∙◌, ap, subst, arith}
use Rattle.std.proofs.lemmas.List.{get_or_default}
use Rattle.std.proofs.lemmas.Bool.{cases_lt, cases_Bool}
use Rattle.sc_matrix.specs.Vector.{add_vectors, scale_vector}
use Rattle.sc_matrix.proofs.VectorLaws.{length-add_vectors, length-scale_vector}
use Rattle.sc_echelon.specs.Equation.{Row}
use Rattle.sc_echelon.specs.Table.{slot}
use Rattle.sc_echelon.specs.Steps.{plus_row, clear_at, cleared, eliminate, reduce}
use Rattle.sc_echelon.specs.Storage.{place, table_of, ChangedBelow}
use Rattle.sc_echelon.proofs.Settle.{none_is_not_some}
use Rattle.sc_echelon.proofs.StorageLaws.{slot-table_of, changed_on}

module _ {X : Type 0} (used : List Bool) (rows : List X) (count : length rows ≡ length used) where
  pub slot_on : (k : ℕ) (r : X) → k < length used → get_or used k false ≡ true → r ≡ get_or rows k r → slot (table_of used rows) k ≡ Some r
  slot_on k r l on is = slot-table_of used rows k r count l ∙ ap (λ (b : Bool). place b (get_or rows k r)) on ∙ ap Some (sym is)

  pub slot_off : (k : ℕ) (d : X) → k < length used → get_or used k false ≡ false → slot (table_of used rows) k ≡ None
  slot_off k d l off = slot-table_of used rows k d count l ∙ ap (λ (b : Bool). place b (get_or rows k d)) off

  -- what stands at a place is the row there
  pub slot_row : (k : ℕ) (q r : X) → k < length used → q ≡ get_or rows k q → slot (table_of used rows) k ≡ Some r → q ≡ r
  slot_row k q r l is full = elim (cases_Bool (get_or used k false)) [
    | inl on ↦ (let here : slot (table_of used rows) k ≡ Some q = slot_on k q l on is in cc)
    | inr off ↦ none_is_not_some (slot_off k q l off) full
  ]

-- ---- a row is reduced
pub width_at : {X : Type 0} (size : X → ℕ) (n : ℕ) (rows : List X) (k : ℕ) (r : X) → k < length rows → r ≡ get_or rows k r → All (λ x. size x ≡ n) rows → size r ≡ n
width_at size n rows k r l is all = ap size is ∙ all k r l

module _ {A V : Type 0} (zero : A) (add sub mul : A → A → A) (plus : V → V → V) (times : A → V → V) (t : List (Option (Row A V))) (q m : Row A V) where
  pub reduce_on : (r new : Row A V) (k : ℕ) (x : A) → slot t k ≡ Some r → m ≡ reduce zero add sub mul plus times t k q → x ≡ sub zero (get_or m.coeffs k zero) → new ≡ plus_row add mul plus times m x r → new ≡ reduce zero add sub mul plus times t (k + 1) q
  reduce_on r new k x full em ex en =
      en ∙ ap (λ (y : A). plus_row add mul plus times m y r) ex ∙ ap (λ (s : Row A V). cleared zero add sub mul plus times s k r) em
      ∙ ap (λ (o : Option (Row A V)). eliminate zero add sub mul plus times o k (reduce zero add sub mul plus times t k q)) (sym full)
      ∙ ap (λ (j : ℕ). reduce zero add sub mul plus times t j q) (next k) where
        next : (i : ℕ) → suc i ≡ i + 1
        next i = omega arith

  pub reduce_off : (new : Row A V) (k : ℕ) → slot t k ≡ None → m ≡ reduce zero add sub mul plus times t k q → new ≡ m → new ≡ reduce zero add sub mul plus times t (k + 1) q
  reduce_off new k free em en =
      en ∙ em
      ∙ ap (λ (o : Option (Row A V)). eliminate zero add sub mul plus times o k (reduce zero add sub mul plus times t k q)) (sym free)
      ∙ ap (λ (j : ℕ). reduce zero add sub mul plus times t j q) (next k) where
        next : (i : ℕ) → suc i ≡ i + 1
        next i = omega arith

pub plus_width : {A V : Type 0} (add mul : A → A → A) (plus : V → V → V) (times : A → V → V) (m : Row A V) (x : A) (r : Row A V) → length m.coeffs ≡ length r.coeffs → length (plus_row add mul plus times m x r).coeffs ≡ length m.coeffs
plus_width add mul plus times m x r e = length-add_vectors add m.coeffs (scale_vector mul x r.coeffs) (e ∙ sym (length-scale_vector mul x r.coeffs))

pub plus_right : {A : Type 0} (add mul : A → A → A) (xor : ℕ → ℕ → ℕ) (act : A → ℕ → ℕ) (m : Row A (List ℕ)) (x : A) (r : Row A (List ℕ)) → length m.right ≡ length r.right
    → length (plus_row add mul (add_vectors xor) (scale_vector act) m x r).right ≡ length m.right
plus_right add mul xor act m x r e = length-add_vectors xor m.right (scale_vector act x r.right) (e ∙ sym (length-scale_vector act x r.right))

-- ---- a column is cleared in the rows in use
module _ {A V : Type 0} (zero : A) (add sub mul : A → A → A) (plus : V → V → V) (times : A → V → V) (p : ℕ) (by : Row A V) (used : List Bool) (old : List (Row A V)) where
  pub cleared_on : (k : ℕ) (rows : List (Row A V)) (r new : Row A V) (x : A) → k < length old → get_or used k false ≡ true → r ≡ get_or rows k r → x ≡ sub zero (get_or r.coeffs p zero) → new ≡ plus_row add mul plus times r x by
      → ChangedBelow (clear_at zero add sub mul plus times p by) used old k rows → ChangedBelow (clear_at zero add sub mul plus times p by) used old (k + 1) (set rows k new)
  cleared_on k rows r new x l on is ex en h =
      let e : k + 1 ≡ suc k = omega arith in
      let c = h.count in
      let same : r ≡ get_or old k new = is ∙ h.left k r (omega arith) l ∙ get_or_default old k r new l in
      let made : new ≡ plus_row add mul plus times (get_or old k new) (sub zero (get_or (get_or old k new).coeffs p zero)) by =
      en ∙ ap (λ (y : A). plus_row add mul plus times r y by) ex ∙ ap (λ (s : Row A V). plus_row add mul plus times s (sub zero (get_or s.coeffs p zero)) by) same in
      subst (λ (j : ℕ). ChangedBelow (clear_at zero add sub mul plus times p by) used old j (set rows k new)) (sym e)
      (changed_on (clear_at zero add sub mul plus times p by) used old k rows new l on (ap Some (sym made)) h)

  -- rows that are not in use are passed over
  pub cleared_skip : (k m : ℕ) (rows : List (Row A V)) → k ≤ m → ((i : ℕ) → k ≤ i → i < m → get_or used i false ≡ false)
      → ChangedBelow (clear_at zero add sub mul plus times p by) used old k rows → ChangedBelow (clear_at zero add sub mul plus times p by) used old m rows
  cleared_skip k m rows order off h = record {
    count = h.count;
    done = λ i d l fits. elim (cases_lt i k) [
      | inl low ↦ h.done i d low fits
      | inr high ↦
          (ap (λ (b : Bool). place b (get_or rows i d)) (off i high l)
          ∙ sym (ap (λ (b : Bool). clear_at zero add sub mul plus times p by (place b (get_or old i d))) (off i high l)))
    ];
    left = λ i d l. h.left i d (omega arith);
  }
