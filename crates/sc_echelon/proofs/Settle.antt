-- A reduced table has solutions: any values of the columns that are no pivots can be completed by values at the pivots.
use Rattle.std.proofs.Common.{◌≡◌, ◌≢◌, ◌⊎◌, ℕ, zero as naught, suc, ◌<◌, List, [], ◌∷◌, length, get_or, map, set, replicate, All, Option, None, Some, inl, inr, refl, sym, ◌∙◌, ap, ap₂, subst, arith}
use Rattle.std.proofs.lemmas.List.{length-map, length-replicate, length-set, get_or-map, get_or-replicate, get_or-set_same, get_or-set_other, get_or_past}
use Rattle.std.proofs.lemmas.List.Elements.{All-set, All-from_get_or}
use Rattle.sc_field.specs.Field.{IsField}
use Rattle.sc_matrix.specs.Vector.{add_vectors, dot, IsVector}
use Rattle.sc_matrix.proofs.VectorLaws.{length-add_vectors, get_or-add_vectors}
use Rattle.sc_matrix.specs.Module.{IsModule}
use Rattle.sc_echelon.specs.Equation.{Row}
use Rattle.sc_echelon.specs.Table.{slot, IsReduced, SolvesTable}
use Rattle.sc_echelon.proofs.DotLaws.{minus_of, minus_of_value, plus_minus_of, values-plus, values_none, dot_value, dot-plus, dot_one}

pub cases_option : {X : Type 0} (o : Option X) → (o ≡ None) ⊎ ((x : X) × (o ≡ Some x))
cases_option None = inl refl
cases_option (Some x) = inr (x, refl)

pub none_is_not_some : {X Y : Type 0} {o : Option X} {x : X} → o ≡ None → o ≡ Some x → Y
none_is_not_some a b = cc

-- a table has a row only at one of its places
pub slot_within : {X : Type 0} (t : List (Option X)) (i : ℕ) (x : X) → slot t i ≡ Some x → i < length t
slot_within [] i x e = none_is_not_some (get_or_past [] i None (omega arith)) e
slot_within (o ∷ t) naught x e = omega arith
slot_within (o ∷ t) (suc i) x e = let h = slot_within t i x e in omega arith

module _ {A V : Type 0} {IsElement : A → Type 0} {zero one : A} {add sub mul : A → A → A} {inv : A → A} {IsValue : V → Type 0} {none : V} {plus : V → V → V} {times : A → V → V} (laws : IsField IsElement zero one add sub mul inv) (ml : IsModule IsElement zero one add mul IsValue none plus times) where
  -- what the values lack at a row's pivot to meet the row
  abbrev pub correction : List V → Option (Row A V) → V
  correction f None = none
  correction f (Some r) = minus_of laws ml r.right (dot none plus times r.coeffs f)

  -- the values, changed at the pivots so that they meet each row
  abbrev pub settle : List (Option (Row A V)) → List V → List V
  settle t f = add_vectors plus f (map (correction f) t)

  module _ (n : ℕ) (t : List (Option (Row A V))) (form : IsReduced IsElement zero one IsValue n t) (f : List V) (hf : IsVector IsValue n f) where
    length-corrections : length (map (correction f) t) ≡ n
    length-corrections = length-map t (correction f) ∙ form.count

    correction_value : (i : ℕ) → IsValue (correction f (slot t i))
    correction_value i = elim (cases_option (slot t i)) [
      | inl e ↦ subst (λ (o : Option (Row A V)). IsValue (correction f o)) (sym e) ml.none_value
      | inr (r, e) ↦
          (let hr = form.rows i r e in
          subst (λ (o : Option (Row A V)). IsValue (correction f o)) (sym e)
          (minus_of_value laws ml r.right (dot none plus times r.coeffs f) hr.value (dot_value laws ml r.coeffs f hr.elements hf.entries)))
    ]

    corrections_values : All IsValue (map (correction f) t)
    corrections_values =
        All-from_get_or IsValue (map (correction f) t) none
        (λ i h. subst IsValue (sym (get_or-map (correction f) t i None none (let l = length-map t (correction f) in omega arith))) (correction_value i))

    pub settle_values : IsVector IsValue n (settle t f)
    settle_values = record {
      width = length-add_vectors plus f (map (correction f) t) (hf.width ∙ sym length-corrections) ∙ hf.width;
      entries = values-plus laws ml f (map (correction f) t) hf.entries corrections_values;
    }

    pub settle_entry : (i : ℕ) → i < n → get_or (settle t f) i none ≡ plus (get_or f i none) (correction f (slot t i))
    settle_entry i h =
        let lf = hf.width in
        let lt = form.count in
        get_or-add_vectors plus f (map (correction f) t) i none (hf.width ∙ sym length-corrections) (omega arith)
        ∙ ap (plus (get_or f i none)) (get_or-map (correction f) t i None none (omega arith))

    value_at : (i : ℕ) → i < n → IsValue (get_or f i none)
    value_at i h = let l = hf.width in hf.entries i none (omega arith)

    pub settle_free : (i : ℕ) → i < n → slot t i ≡ None → get_or (settle t f) i none ≡ get_or f i none
    settle_free i h e = settle_entry i h ∙ ap (λ (o : Option (Row A V)). plus (get_or f i none) (correction f o)) e ∙ ml.plus_none (get_or f i none) (value_at i h)

    pub settle_pivot : (i : ℕ) (r : Row A V) → i < n → slot t i ≡ Some r → get_or (settle t f) i none ≡ plus (get_or f i none) (minus_of laws ml r.right (dot none plus times r.coeffs f))
    settle_pivot i r h e = settle_entry i h ∙ ap (λ (o : Option (Row A V)). plus (get_or f i none) (correction f o)) e

    pub settle_solves : SolvesTable none plus times t (settle t f)
    settle_solves i r e =
        let hr = form.rows i r e in
        let lt = form.count in
        let lr = hr.width in
        let lc = length-corrections in
        let h : i < n = let w = slot_within t i r e in omega arith in
        let cf = dot_value laws ml r.coeffs f hr.elements hf.entries in
        let d : V = minus_of laws ml r.right (dot none plus times r.coeffs f) in
        let hd : IsValue d = minus_of_value laws ml r.right (dot none plus times r.coeffs f) hr.value cf in
        let at_i : get_or (map (correction f) t) i none ≡ d = get_or-map (correction f) t i None none (omega arith) ∙ ap (correction f) e in
        let single : dot none plus times r.coeffs (map (correction f) t) ≡ times (get_or r.coeffs i zero) (get_or (map (correction f) t) i none) =
        dot_one laws ml r.coeffs (map (correction f) t) i hr.elements corrections_values (omega arith) (omega arith)
        (λ j l k ne. elim (cases_option (slot t j)) [
          | inl free ↦ inr (get_or-map (correction f) t j None none (omega arith) ∙ ap (correction f) free)
          | inr (q, full) ↦ inl (form.zero_at i j r q e full (λ s. ne (sym s)))
        ]) in
        dot-plus laws ml r.coeffs f (map (correction f) t) hr.elements hf.entries corrections_values (hf.width ∙ sym length-corrections)
        ∙ ap (plus (dot none plus times r.coeffs f)) (single ∙ ap₂ times (form.one_at i r e) at_i ∙ ml.times_one d hd)
        ∙ plus_minus_of laws ml r.right (dot none plus times r.coeffs f) hr.value cf

  -- ---- values to begin with
  -- none at every column
  pub none_values : (n : ℕ) → IsVector IsValue n (replicate n none)
  none_values n = record { width = length-replicate n none; entries = values_none laws ml n }

  -- v at column j, and none elsewhere
  abbrev pub alone : ℕ → ℕ → V → List V
  alone n j v = set (replicate n none) j v

  pub alone_values : (n j : ℕ) (v : V) → IsValue v → IsVector IsValue n (alone n j v)
  alone_values n j v h = record {
    width = length-set (replicate n none) j v ∙ length-replicate n none;
    entries = All-set IsValue (replicate n none) j v h (values_none laws ml n);
  }

  pub alone_at : (n j : ℕ) (v : V) → j < n → get_or (alone n j v) j none ≡ v
  alone_at n j v h = let l = length-replicate n none in get_or-set_same (replicate n none) j v none (omega arith)

  pub alone_off : (n j i : ℕ) (v : V) → i < n → i ≢ j → get_or (alone n j v) i none ≡ none
  alone_off n j i v h ne = get_or-set_other (replicate n none) j i v none ne ∙ get_or-replicate n i none none h

  -- one solution always exists
  pub a_solution : (n : ℕ) (t : List (Option (Row A V))) → IsReduced IsElement zero one IsValue n t → (vs : List V) × IsVector IsValue n vs × SolvesTable none plus times t vs
  a_solution n t form = (settle t (replicate n none), settle_values n t form (replicate n none) (none_values n), settle_solves n t form (replicate n none) (none_values n))
