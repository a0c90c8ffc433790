-- The first columns are forgotten. The rows with a pivot there can be met by some values of those columns, whatever the
-- others are, so they go; the other rows are zero there.
use Rattle.std.proofs.Common.{◌≡◌, ℕ, ◌+◌, ◌-◌, ◌<◌, ◌≤◌, Bool, false, List, ◌++◌, length, get_or, map, take, drop, replicate, All, Option, None, Some, inl, inr, refl, sym, ◌∙◌, ap, ap₂, subst, arith}
use Rattle.std.proofs.lemmas.List.{length-map, length-replicate, length-append, length-drop, length-take-le, get_or-map, get_or-replicate, get_or-drop, get_or-take, get_or_append_left, get_or-append_right, get_or_past, take-append-drop, ext_get_or}
use Rattle.std.proofs.lemmas.List.Elements.{All-append, All-take, All-drop}
use Rattle.std.proofs.lemmas.Bool.{cases_lt}
use Rattle.sc_field.specs.Field.{IsField}
use Rattle.sc_matrix.specs.Module.{IsModule}
use Rattle.sc_matrix.specs.Vector.{dot, IsVector}
use Rattle.sc_echelon.specs.Equation.{Row, IsRow, Meets}
use Rattle.sc_echelon.specs.Storage.{HasReach, IsLoneUnless}
use Rattle.sc_echelon.specs.Table.{slot, IsReduced, HasFirstPivots, SolvesTable}
use Rattle.sc_echelon.specs.Steps.{shift, shift_row, forget}
use Rattle.sc_matrix.proofs.ModuleLaws.{none_plus}
use Rattle.sc_matrix.proofs.Modules.{field_module}
use Rattle.sc_echelon.proofs.DotLaws.{minus_of, plus_minus, values_none, dot_value, dot_none, dot-join}
use Rattle.sc_echelon.proofs.Settle.{cases_option, none_is_not_some, slot_within, settle, settle_values, settle_free, settle_pivot, settle_solves}

none_in_nones : {X : Type 0} (k i : ℕ) → get_or {A = Option X} (replicate k None) i None ≡ None
none_in_nones {X} k i = elim (cases_lt i k) [
  | inl l ↦ get_or-replicate k i None None l
  | inr past ↦ get_or_past (replicate k None) i None (let l = length-replicate {A = Option X} k None in omega arith)
]

module _ {A V : Type 0} {IsElement : A → Type 0} {zero one : A} {add sub mul : A → A → A} {inv : A → A} {IsValue : V → Type 0} {none : V} {plus : V → V → V} {times : A → V → V} (laws : IsField IsElement zero one add sub mul inv) (ml : IsModule IsElement zero one add mul IsValue none plus times) where
  some_shifted : (count : ℕ) (r' : Row A V) (o : Option (Row A V)) → shift zero count o ≡ Some r' → (r : Row A V) × (o ≡ Some r) × (r' ≡ shift_row zero count r)
  some_shifted count r' None e = none_is_not_some refl e
  some_shifted count r' (Some r) e = (r, refl, cc)

  module _ (n : ℕ) (t : List (Option (Row A V))) (form : IsReduced IsElement zero one IsValue n t) (first : HasFirstPivots zero t) (count : ℕ) (fits : count ≤ n) where
    length_kept : length (map (shift zero count) (drop count t)) ≡ n - count
    length_kept = length-map (drop count t) (shift zero count) ∙ length-drop count t ∙ ap (λ (k : ℕ). k - count) form.count

    slot_kept : (i : ℕ) → i < n - count → slot (forget zero count t) i ≡ shift zero count (slot t (count + i))
    slot_kept i l =
        let k = length_kept in
        let d = length-drop count t in
        let c = form.count in
        get_or_append_left (map (shift zero count) (drop count t)) (replicate count None) None i (omega arith)
        ∙ get_or-map (shift zero count) (drop count t) i None None (omega arith)
        ∙ ap (shift zero count) (get_or-drop count t i None)

    slot_new : (i : ℕ) → n - count ≤ i → slot (forget zero count t) i ≡ None
    slot_new i l = get_or-append_right (map (shift zero count) (drop count t)) (replicate count None) (n - count) i None length_kept l ∙ none_in_nones count (i - (n - count))

    forget_cases : (i : ℕ) (r' : Row A V) → slot (forget zero count t) i ≡ Some r' → (r : Row A V) × (slot t (count + i) ≡ Some r) × (r' ≡ shift_row zero count r)
    forget_cases i r' e = elim (cases_lt i (n - count)) [
      | inl l ↦ some_shifted count r' (slot t (count + i)) (sym (slot_kept i l) ∙ e)
      | inr past ↦ none_is_not_some (slot_new i past) e
    ]

    length_shifted : (r : Row A V) → IsRow IsElement IsValue n r → length (drop count r.coeffs ++ replicate count zero) ≡ n
    length_shifted r hr =
        let a = length-append (drop count r.coeffs) (replicate count zero) in
        let b = length-drop count r.coeffs in
        let c = length-replicate count zero in
        let w = hr.width in
        omega arith

    shifted_row : (r : Row A V) → IsRow IsElement IsValue n r → IsRow IsElement IsValue n (shift_row zero count r)
    shifted_row r hr = record {
      width = length_shifted r hr;
      elements = All-append IsElement (drop count r.coeffs) (replicate count zero) (All-drop IsElement count r.coeffs hr.elements) (values_none laws (field_module laws) count);
      value = hr.value;
    }

    shifted_entry : (r : Row A V) (j : ℕ) → IsRow IsElement IsValue n r → get_or (drop count r.coeffs ++ replicate count zero) j zero ≡ get_or r.coeffs (count + j) zero
    shifted_entry r j hr =
        let w = hr.width in
        let b = length-drop count r.coeffs in
        let c = length-replicate count zero in
        elim (cases_lt j (n - count)) [
          | inl l ↦ (get_or_append_left (drop count r.coeffs) (replicate count zero) zero j (omega arith) ∙ get_or-drop count r.coeffs j zero)
          | inr past ↦
              (get_or-append_right (drop count r.coeffs) (replicate count zero) (n - count) j zero (omega arith) past ∙ zeros (j - (n - count))
              ∙ sym (get_or_past r.coeffs (count + j) zero (omega arith)))
        ] where
          zeros : (i : ℕ) → get_or (replicate count zero) i zero ≡ zero
          zeros i = elim (cases_lt i count) [
            | inl l ↦ get_or-replicate count i zero zero l
            | inr past ↦ get_or_past (replicate count zero) i zero (let l = length-replicate count zero in omega arith)
          ]

    -- the form is kept
    pub reduced-forget : IsReduced IsElement zero one IsValue n (forget zero count t)
    reduced-forget = record {
      count = (let a = length-append (map (shift zero count) (drop count t)) (replicate count None) in let b = length_kept in let c = length-replicate {A = Option (Row A V)} count None in omega arith);
      rows = λ i r' e.
          let (r, f, is_r) = forget_cases i r' e in
          subst (λ (x : Row A V). IsRow IsElement IsValue n x) (sym is_r) (shifted_row r (form.rows (count + i) r f));
      one_at = λ i r' e.
          let (r, f, is_r) = forget_cases i r' e in
          ap (λ (x : Row A V). get_or x.coeffs i zero) is_r ∙ shifted_entry r i (form.rows (count + i) r f) ∙ form.one_at (count + i) r f;
      zero_at = λ i j r' q' e g ne.
          let (r, f, is_r) = forget_cases i r' e in
          let (q, k, is_q) = forget_cases j q' g in
          ap (λ (x : Row A V). get_or x.coeffs j zero) is_r ∙ shifted_entry r j (form.rows (count + i) r f)
          ∙ form.zero_at (count + i) (count + j) r q f k (λ s. ne (omega arith));
    }

    pub first-forget : HasFirstPivots zero (forget zero count t)
    first-forget i j r' e l =
        let (r, f, is_r) = forget_cases i r' e in
        ap (λ (x : Row A V). get_or x.coeffs j zero) is_r ∙ shifted_entry r j (form.rows (count + i) r f) ∙ first (count + i) (count + j) r f (omega arith)

    pub reach-forget : (reach : ℕ) → HasReach zero reach t → HasReach zero reach (forget zero count t)
    reach-forget reach near i j r' e l =
        let (r, f, is_r) = forget_cases i r' e in
        ap (λ (x : Row A V). get_or x.coeffs j zero) is_r ∙ shifted_entry r j (form.rows (count + i) r f) ∙ near (count + i) (count + j) r f (omega arith)

    pub lone-forget : (mixed : List Bool) → length mixed ≡ n → IsLoneUnless zero mixed t → IsLoneUnless zero (drop count mixed ++ replicate count false) (forget zero count t)
    lone-forget mixed size lone i j r' e off l =
        let (r, f, is_r) = forget_cases i r' e in
        let w = slot_within t (count + i) r f in
        let c = form.count in
        let d = length-drop count mixed in
        let flag : get_or mixed (count + i) false ≡ false = sym (get_or_append_left (drop count mixed) (replicate count false) false i (omega arith) ∙ get_or-drop count mixed i false) ∙ off in
        ap (λ (x : Row A V). get_or x.coeffs j zero) is_r ∙ shifted_entry r j (form.rows (count + i) r f) ∙ lone (count + i) (count + j) r f flag (omega arith)

    -- ---- solutions
    module _ (vs : List V) (hv : IsVector IsValue n vs) where
      abbrev pub back : List V
      back = take (n - count) vs

      length_back : length back ≡ n - count
      length_back = let c = hv.width in length-take-le (n - count) vs (omega arith)

      values_back : All IsValue back
      values_back = All-take IsValue (n - count) vs hv.entries

      -- the shifted row says of vs what the row says of its back, whatever stands in front of it
      shifted_dot : (r : Row A V) (us : List V) → IsRow IsElement IsValue n r → ((j : ℕ) → j < count → get_or r.coeffs j zero ≡ zero) → IsVector IsValue count us
          → dot none plus times (shift_row zero count r).coeffs vs ≡ dot none plus times r.coeffs (us ++ back)
      shifted_dot r us hr zeros hu =
          let w = hr.width in
          let d = length-drop count r.coeffs in
          let lb = length_back in
          let lu = hu.width in
          let lt = length-take-le count r.coeffs (omega arith) in
          let hd = All-drop IsElement count r.coeffs hr.elements in
          let ht = All-take IsElement count r.coeffs hr.elements in
          let vd = All-drop IsValue (n - count) vs hv.entries in
          let at_end : dot none plus times (replicate count zero) (drop (n - count) vs) ≡ none =
          dot_none laws ml (replicate count zero) (drop (n - count) vs) (values_none laws (field_module laws) count) vd
          (λ i l k. inl (get_or-replicate count i zero zero (let c = length-replicate count zero in omega arith))) in
          let in_front : dot none plus times (take count r.coeffs) us ≡ none =
          dot_none laws ml (take count r.coeffs) us ht hu.entries
          (λ i l k. inl (get_or-take count r.coeffs i zero (omega arith) ∙ zeros i (omega arith))) in
          ap (dot none plus times (drop count r.coeffs ++ replicate count zero)) (sym (take-append-drop (n - count) vs))
          ∙ dot-join laws ml (drop count r.coeffs) (replicate count zero) back (drop (n - count) vs) (omega arith) hd (values_none laws (field_module laws) count) values_back vd
          ∙ ap (plus (dot none plus times (drop count r.coeffs) back)) at_end
          ∙ ml.plus_none (dot none plus times (drop count r.coeffs) back) (dot_value laws ml (drop count r.coeffs) back hd values_back)
          ∙ sym (ap (λ (cs : List A). dot none plus times cs (us ++ back)) (sym (take-append-drop count r.coeffs))
          ∙ dot-join laws ml (take count r.coeffs) (drop count r.coeffs) us back (omega arith) ht hd hu.entries values_back
          ∙ ap (λ (v : V). plus v (dot none plus times (drop count r.coeffs) back)) in_front
          ∙ none_plus laws ml (dot none plus times (drop count r.coeffs) back) (dot_value laws ml (drop count r.coeffs) back hd values_back))

      leading_zeros : (i : ℕ) (r : Row A V) → slot t (count + i) ≡ Some r → (j : ℕ) → j < count → get_or r.coeffs j zero ≡ zero
      leading_zeros i r f j l = first (count + i) j r f (omega arith)

      -- what front values complete to a solution of before is a solution now
      pub forget_keeps : (us : List V) → IsVector IsValue count us → SolvesTable none plus times t (us ++ back) → SolvesTable none plus times (forget zero count t) vs
      forget_keeps us hu s i r' e =
          let (r, f, is_r) = forget_cases i r' e in
          subst (λ (x : Row A V). Meets none plus times x vs) (sym is_r)
          (shifted_dot r us (form.rows (count + i) r f) (leading_zeros i r f) hu ∙ s (count + i) r f)

      -- and each solution now has such front values
      blank : List V
      blank = replicate count none

      blank_values : IsVector IsValue count (replicate count none)
      blank_values = record { width = length-replicate count none; entries = values_none laws ml count }

      joined_values : IsVector IsValue n (replicate count none ++ back)
      joined_values = record {
        width = (let a = length-append (replicate count none) back in let b = length_back in let c = length-replicate count none in omega arith);
        entries = All-append IsValue (replicate count none) back (values_none laws ml count) values_back;
      }

      module _ (s : SolvesTable none plus times (forget zero count t) vs) where
        completed_values : IsVector IsValue n (settle laws ml t (replicate count none ++ back))
        completed_values = settle_values laws ml n t form (replicate count none ++ back) joined_values

        joined_at : (j : ℕ) → get_or (replicate count none ++ back) (count + j) none ≡ get_or back j none
        joined_at j =
            get_or-append_right (replicate count none) back count (count + j) none (length-replicate count none) (omega arith)
            ∙ ap (λ (k : ℕ). get_or back k none) (omega arith)

        -- behind the forgotten columns nothing has to be changed
        unchanged : (j : ℕ) → j < n - count → get_or (settle laws ml t (replicate count none ++ back)) (count + j) none ≡ get_or back j none
        unchanged j l = elim (cases_option (slot t (count + j))) [
          | inl free ↦ (settle_free laws ml n t form (replicate count none ++ back) joined_values (count + j) (omega arith) free ∙ joined_at j)
          | inr (r, full) ↦
              (let hr = form.rows (count + j) r full in
              let met : dot none plus times r.coeffs (replicate count none ++ back) ≡ r.right =
              sym (shifted_dot r (replicate count none) hr (leading_zeros j r full) blank_values)
              ∙ s j (shift_row zero count r) (slot_kept j l ∙ ap (shift zero count) full) in
              settle_pivot laws ml n t form (replicate count none ++ back) joined_values (count + j) r (omega arith) full
              ∙ ap₂ plus (joined_at j) (ap (minus_of laws ml r.right) met ∙ plus_minus laws ml r.right hr.value)
              ∙ ml.plus_none (get_or back j none) (values_back j none (let b = length_back in omega arith)))
        ]

        pub forget_completes : (us : List V) × IsVector IsValue count us × SolvesTable none plus times t (us ++ back)
        forget_completes =
            let hc = completed_values in
            let lc = hc.width in
            let x = settle laws ml t (replicate count none ++ back) in
            let lb = length_back in
            let ld = length-drop count x in
            let same : drop count x ≡ back =
            ext_get_or none (drop count x) back (omega arith) (λ j l. get_or-drop count x j none ∙ unchanged j (omega arith)) in (
              take count x,
              record { width = length-take-le count x (omega arith); entries = All-take IsValue count x hc.entries },
              subst (λ (ys : List V). SolvesTable none plus times t (take count x ++ ys)) same
                  (subst (λ (ys : List V). SolvesTable none plus times t ys) (sym (take-append-drop count x))
                  (settle_solves laws ml n t form (replicate count none ++ back) joined_values)),
            )
