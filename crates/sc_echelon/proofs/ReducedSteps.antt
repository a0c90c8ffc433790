-- The table of a system whose right sides are all zero keeps its coefficients alone. The steps by which it is built.
use Rattle.std.proofs.Common.{◌≡◌, ◌≢◌, ◌↔◌, ℕ, suc, ◌<◌, List, [], ◌∷◌, ◌++◌, length, get_or, map, set, replicate, All, Option, None, Some, inl, inr, refl, sym, ◌∙◌, ap, subst, arith}
use Rattle.std.proofs.lemmas.List.{length-map, length-replicate, get_or-map, get_or-replicate, get_or_past, ext_get_or, map-set}
use Rattle.std.proofs.lemmas.List.Elements.{All-nil, All-cons, All-push, All-head, All-tail}
use Rattle.std.proofs.lemmas.Bool.{cases_lt}
use Rattle.sc_field.specs.Field.{IsField}
use Rattle.sc_field.specs.FieldLemmas.{mul_zero}
use Rattle.sc_matrix.specs.Vector.{add_vectors, scale_vector, dot}
use Rattle.sc_echelon.specs.Equation.{Row, Meets}
use Rattle.sc_echelon.specs.Table.{slot, IsReduced, HasLastPivots, SolvesTable}
use Rattle.sc_echelon.specs.Echelon.{zero_row, with_zero, homogeneous, IsEchelon, HasKernelOf}
use Rattle.sc_echelon.specs.Steps.{IsLeft, clear_at, insert, led}
use Rattle.sc_echelon.proofs.Settle.{cases_option, none_is_not_some, slot_within}
use Rattle.sc_echelon.proofs.RowOperations.{entry_element}
use Rattle.sc_echelon.proofs.AddRow.{left_first, left_free, left_pivot, known}
use Rattle.sc_echelon.proofs.Insert.{reduced-new, last-new, solves-new}
use Rattle.sc_matrix.proofs.Modules.{field_module}

module _ {A : Type 0} (zero : A) where
  pub slot-homogeneous : (s : List (Option (List A))) (i : ℕ) → slot (homogeneous zero s) i ≡ with_zero zero (slot s i)
  slot-homogeneous s i = elim (cases_lt i (length s)) [
    | inl l ↦ get_or-map (with_zero zero) s i None None l
    | inr past ↦
        (get_or_past (homogeneous zero s) i None (let k = length-map s (with_zero zero) in omega arith)
        ∙ ap (with_zero zero) (sym (get_or_past s i None past)))
  ]

  pub slot_some : (s : List (Option (List A))) (i : ℕ) (cs : List A) → slot s i ≡ Some cs → slot (homogeneous zero s) i ≡ Some (zero_row zero cs)
  slot_some s i cs e = slot-homogeneous s i ∙ ap (with_zero zero) e

  some_row : (o : Option (List A)) (r : Row A A) → with_zero zero o ≡ Some r → (cs : List A) × (o ≡ Some cs) × (r ≡ zero_row zero cs)
  some_row None r e = none_is_not_some refl e
  some_row (Some cs) r e = (cs, refl, cc)

  pub slot_row : (s : List (Option (List A))) (i : ℕ) (r : Row A A) → slot (homogeneous zero s) i ≡ Some r → (cs : List A) × (slot s i ≡ Some cs) × (r ≡ zero_row zero cs)
  slot_row s i r e = some_row (slot s i) r (sym (slot-homogeneous s i) ∙ e)

  pub slot_none : (s : List (Option (List A))) (i : ℕ) → slot s i ≡ None → slot (homogeneous zero s) i ≡ None
  slot_none s i e = slot-homogeneous s i ∙ ap (with_zero zero) e

  pub slot_none_back : (s : List (Option (List A))) (i : ℕ) → slot (homogeneous zero s) i ≡ None → slot s i ≡ None
  slot_none_back s i e = elim (cases_option (slot s i)) [
    | inl f ↦ f
    | inr (cs, f) ↦ none_is_not_some e (slot_some s i cs f)
  ]

  pub right_sides : (s : List (Option (List A))) (i : ℕ) (r : Row A A) → slot (homogeneous zero s) i ≡ Some r → r.right ≡ zero
  right_sides s i r e = let (cs, f, is_r) = slot_row s i r e in ap (λ (x : Row A A). x.right) is_r

module _ {A : Type 0} {IsElement : A → Type 0} {zero one : A} {add sub mul : A → A → A} {inv : A → A} (laws : IsField IsElement zero one add sub mul inv) where
  -- ---- the start: no rows, and every vector is in the kernel
  no_slot : (n i : ℕ) (r : Row A A) {Y : Type 0} → slot (homogeneous zero (replicate n None)) i ≡ Some r → Y
  no_slot n i r e =
      none_is_not_some
      (slot_none zero (replicate n None) i (elim (cases_lt i n) [
        | inl l ↦ get_or-replicate {A = Option (List A)} n i None None l
        | inr past ↦ get_or_past (replicate n None) i None (let l = length-replicate {A = Option (List A)} n None in omega arith)
      ])) e

  pub echelon_start : (n : ℕ) → IsEchelon IsElement zero one n (replicate n None)
  echelon_start n = record {
    reduced = record {
      count = length-map (replicate n None) (with_zero zero) ∙ length-replicate n None;
      rows = λ i r e. no_slot n i r e;
      one_at = λ i r e. no_slot n i r e;
      zero_at = λ i j r q e g ne. no_slot n i r e;
    };
    last = λ i j r e l. no_slot n i r e;
  }

  pub kernel_start : (n : ℕ) → HasKernelOf IsElement zero add mul n (replicate n None) []
  kernel_start n v hv = (λ s. All-nil (λ (r : List A). dot zero add mul r v ≡ zero), λ a i r e. no_slot n i r e)

  -- ---- a row is cleared at the pivots
  -- What is left of the coefficients q once the pivots below k are cleared.
  abbrev pub IsLeftOf : ℕ → List (Option (List A)) → List A → ℕ → List A → Type 0
  IsLeftOf n s q k m = IsLeft IsElement zero IsElement zero add mul n (homogeneous zero s) (zero_row zero q) k (zero_row zero m)

  pub start_left : (n : ℕ) (s : List (Option (List A))) (q : List A) → length q ≡ n → All IsElement q → IsLeftOf n s q 0 q
  start_left n s q l h = left_first laws (field_module laws) n (homogeneous zero s) (zero_row zero q) (record { width = l; elements = h; value = laws.zero_element })

  pub free_left : (n : ℕ) (s : List (Option (List A))) (q : List A) (k : ℕ) (m : List A) → slot s k ≡ None → IsLeftOf n s q k m → IsLeftOf n s q (suc k) m
  free_left n s q k m e h = left_free laws (field_module laws) n (homogeneous zero s) (zero_row zero q) k (zero_row zero m) (slot_none zero s k e) h

  zero_right : (x : A) → IsElement x → add zero (mul x zero) ≡ zero
  zero_right x hx = ap (add zero) (mul_zero laws x hx) ∙ laws.add_zero zero laws.zero_element

  pub pivot_left : (n : ℕ) (s : List (Option (List A))) (q : List A) (k : ℕ) (m r : List A) → IsEchelon IsElement zero one n s → slot s k ≡ Some r → IsLeftOf n s q k m
      → IsLeftOf n s q (suc k) (add_vectors add m (scale_vector mul (sub zero (get_or m k zero)) r))
  pivot_left n s q k m r form e h =
      let full = slot_some zero s k r e in
      let l : k < n = let w = slot_within (homogeneous zero s) k (zero_row zero r) full in let c = form.reduced.count in omega arith in
      let hx : IsElement (sub zero (get_or m k zero)) = laws.sub_element zero (get_or m k zero) laws.zero_element (entry_element laws (field_module laws) n (zero_row zero m) k h.row l) in
      subst (λ (x : A). IsLeft IsElement zero IsElement zero add mul n (homogeneous zero s) (zero_row zero q) (suc k) (record { coeffs = add_vectors add m (scale_vector mul (sub zero (get_or m k zero)) r); right = x }))
      (zero_right (sub zero (get_or m k zero)) hx)
      (left_pivot laws (field_module laws) n (homogeneous zero s) (zero_row zero q) k (zero_row zero m) (zero_row zero r) form.reduced full h)

  -- ---- nothing is left: the kernel is already that with the row
  all_front : (rows : List (List A)) (q v : List A) → All (λ r. dot zero add mul r v ≡ zero) (rows ++ q ∷ []) → All (λ r. dot zero add mul r v ≡ zero) rows
  all_front [] q v b = All-nil (λ (r : List A). dot zero add mul r v ≡ zero)
  all_front (r ∷ rs) q v b =
      All-cons (λ (x : List A). dot zero add mul x v ≡ zero) r rs (All-head (λ (x : List A). dot zero add mul x v ≡ zero) r (rs ++ q ∷ []) b)
      (all_front rs q v (All-tail (λ (x : List A). dot zero add mul x v ≡ zero) r (rs ++ q ∷ []) b))

  all_back : (rows : List (List A)) (q v : List A) → All (λ r. dot zero add mul r v ≡ zero) (rows ++ q ∷ []) → dot zero add mul q v ≡ zero
  all_back [] q v b = All-head (λ (x : List A). dot zero add mul x v ≡ zero) q [] b
  all_back (r ∷ rs) q v b = all_back rs q v (All-tail (λ (x : List A). dot zero add mul x v ≡ zero) r (rs ++ q ∷ []) b)

  pub kernel_known : (n : ℕ) (s : List (Option (List A))) (rows : List (List A)) (q m : List A) → IsEchelon IsElement zero one n s → HasKernelOf IsElement zero add mul n s rows → IsLeftOf n s q n m
      → ((i : ℕ) → i < n → get_or m i zero ≡ zero) → HasKernelOf IsElement zero add mul n s (rows ++ q ∷ [])
  kernel_known n s rows q m form kernel left zeros v hv = (
    λ a. All-push (λ (r : List A). dot zero add mul r v ≡ zero) rows q ((kernel v hv).0 a)
        (known laws (field_module laws) n (homogeneous zero s) form.reduced (zero_row zero q) (zero_row zero m) left zeros refl v hv a),
    λ b. (kernel v hv).1 (all_front rows q v b),
  )

  -- ---- something is left
  -- the coefficients r, cleared at column p by q
  abbrev pub clear_coeffs : ℕ → List A → Option (List A) → Option (List A)
  clear_coeffs p q None = None
  clear_coeffs p q (Some r) = Some (add_vectors add r (scale_vector mul (sub zero (get_or r p zero)) q))

  -- the coefficients q at pivot p, and their column cleared in the other rows
  abbrev pub insert_coeffs : ℕ → List A → List (Option (List A)) → List (Option (List A))
  insert_coeffs p q s = set (map (clear_coeffs p q) s) p (Some q)

  module _ (n : ℕ) (s : List (Option (List A))) (form : IsEchelon IsElement zero one n s) where
    cleared_alike : (p : ℕ) (q : List A) (i : ℕ) → p < n → clear_at zero add sub mul add mul p (zero_row zero q) (with_zero zero (slot s i)) ≡ with_zero zero (clear_coeffs p q (slot s i))
    cleared_alike p q i lp = elim (cases_option (slot s i)) [
      | inl e ↦
          subst (λ (o : Option (List A)). clear_at zero add sub mul add mul p (zero_row zero q) (with_zero zero o) ≡ with_zero zero (clear_coeffs p q o)) (sym e) refl
      | inr (r, e) ↦
          (let hr = form.reduced.rows i (zero_row zero r) (slot_some zero s i r e) in
          let hx : IsElement (sub zero (get_or r p zero)) = laws.sub_element zero (get_or r p zero) laws.zero_element (entry_element laws (field_module laws) n (zero_row zero r) p hr lp) in
          subst (λ (o : Option (List A)). clear_at zero add sub mul add mul p (zero_row zero q) (with_zero zero o) ≡ with_zero zero (clear_coeffs p q o)) (sym e)
          (ap (λ (x : A). Some (record { coeffs = add_vectors add r (scale_vector mul (sub zero (get_or r p zero)) q); right = x })) (zero_right (sub zero (get_or r p zero)) hx)))
    ]

    insert_alike : (p : ℕ) (q : List A) → p < n → insert zero add sub mul add mul p (zero_row zero q) (homogeneous zero s) ≡ homogeneous zero (insert_coeffs p q s)
    insert_alike p q lp =
        let a = length-map (homogeneous zero s) (clear_at zero add sub mul add mul p (zero_row zero q)) in
        let b = length-map s (with_zero zero) in
        let c = length-map (map (clear_coeffs p q) s) (with_zero zero) in
        let d = length-map s (clear_coeffs p q) in
        ap (λ (xs : List (Option (Row A A))). set xs p (Some (zero_row zero q)))
        (ext_get_or None (map (clear_at zero add sub mul add mul p (zero_row zero q)) (homogeneous zero s)) (map (with_zero zero) (map (clear_coeffs p q) s)) (omega arith)
        (λ i l.
        get_or-map (clear_at zero add sub mul add mul p (zero_row zero q)) (homogeneous zero s) i None None (omega arith)
        ∙ ap (clear_at zero add sub mul add mul p (zero_row zero q)) (slot-homogeneous zero s i)
        ∙ cleared_alike p q i lp
        ∙ ap (with_zero zero) (sym (get_or-map (clear_coeffs p q) s i None None (omega arith)))
        ∙ sym (get_or-map (with_zero zero) (map (clear_coeffs p q) s) i None None (omega arith))))
        ∙ sym (map-set (with_zero zero) (map (clear_coeffs p q) s) p (Some q))

    module _ (q m : List A) (left : IsLeftOf n s q n m) (p : ℕ) (lp : p < n) (ne : get_or m p zero ≢ zero) where
      -- what is left, scaled to a one at p, goes in
      abbrev pub with_coeffs : List (Option (List A))
      with_coeffs = insert_coeffs p (scale_vector mul (inv (get_or m p zero)) m) s

      factor_element : IsElement (inv (get_or m p zero))
      factor_element = laws.inv_element (get_or m p zero) (entry_element laws (field_module laws) n (zero_row zero m) p left.row lp) ne

      led_alike : led zero mul inv mul p (zero_row zero m) ≡ zero_row zero (scale_vector mul (inv (get_or m p zero)) m)
      led_alike = ap (λ (x : A). record { coeffs = scale_vector mul (inv (get_or m p zero)) m; right = x }) (mul_zero laws (inv (get_or m p zero)) factor_element)

      table_alike : insert zero add sub mul add mul p (led zero mul inv mul p (zero_row zero m)) (homogeneous zero s) ≡ homogeneous zero with_coeffs
      table_alike =
          ap (λ (x : Row A A). insert zero add sub mul add mul p x (homogeneous zero s)) led_alike
          ∙ insert_alike p (scale_vector mul (inv (get_or m p zero)) m) lp

      pub echelon_new : ((j : ℕ) → p < j → get_or m j zero ≡ zero) → IsEchelon IsElement zero one n with_coeffs
      echelon_new zeros = record {
        reduced =
            subst (λ (t : List (Option (Row A A))). IsReduced IsElement zero one IsElement n t) table_alike
            (reduced-new laws (field_module laws) n (homogeneous zero s) form.reduced (zero_row zero q) (zero_row zero m) left p lp ne);
        last =
            subst (λ (t : List (Option (Row A A))). HasLastPivots zero t) table_alike
            (last-new laws (field_module laws) n (homogeneous zero s) form.reduced (zero_row zero q) (zero_row zero m) left p lp ne form.last zeros);
      }

      pub kernel_new : (rows : List (List A)) → HasKernelOf IsElement zero add mul n s rows → HasKernelOf IsElement zero add mul n with_coeffs (rows ++ q ∷ [])
      kernel_new rows kernel v hv =
          let f : SolvesTable zero add mul (homogeneous zero with_coeffs) v ↔ (SolvesTable zero add mul (homogeneous zero s) v × Meets zero add mul (zero_row zero q) v) =
          subst (λ (t : List (Option (Row A A))). SolvesTable zero add mul t v ↔ (SolvesTable zero add mul (homogeneous zero s) v × Meets zero add mul (zero_row zero q) v)) table_alike
          (solves-new laws (field_module laws) n (homogeneous zero s) form.reduced (zero_row zero q) (zero_row zero m) left p lp ne v hv) in (
            λ a. let (b, c) = f.0 a in All-push (λ (r : List A). dot zero add mul r v ≡ zero) rows q ((kernel v hv).0 b) c,
            λ a. f.1 ((kernel v hv).1 (all_front rows q v a), all_back rows q v a),
          )
