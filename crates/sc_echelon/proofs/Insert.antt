-- A new row goes into a reduced table at its pivot, and its column is cleared in the other rows.
use Rattle.std.proofs.Common.{◌≡◌, ◌≢◌, ◌↔◌, ◌⊎◌, ℕ, zero as naught, suc, ◌+◌, ◌<◌, ◌≤◌, List, [], ◌∷◌, length, get_or, map, Option, None, Some, inl, inr, refl, sym, ◌∙◌, ap, ap₂, subst, arith}
use Rattle.std.proofs.lemmas.List.{length-map, length-set, get_or-map, get_or-set_same, get_or-set_other, get_or_past}
use Rattle.std.proofs.lemmas.List.Elements.{All-nil, All-cons, All-head, All-tail}
use Rattle.std.proofs.lemmas.Bool.{cases_eq, cases_lt}
use Rattle.sc_field.specs.Field.{IsField}
use Rattle.sc_field.specs.FieldLemmas.{mul_zero, zero_mul, inv_mul, inv-nonzero, sub_self}
use Rattle.sc_matrix.specs.Module.{IsModule}
use Rattle.sc_matrix.specs.Vector.{IsVector}
use Rattle.sc_echelon.specs.Equation.{Row, IsRow, Meets, Solves}
use Rattle.sc_echelon.specs.Storage.{HasReach}
use Rattle.sc_echelon.specs.Table.{slot, rows_of, IsReduced, HasFirstPivots, HasLastPivots, SolvesTable}
use Rattle.sc_echelon.specs.Steps.{plus_row, entry, clear_at, insert, led, IsLeft}
use Rattle.sc_echelon.proofs.RowOperations.{negative_element, entry_element, IsRow-plus_row, IsRow-times_row, entry-plus_row, entry-plus_zero, entry-cleared, entry-times_row, meets-plus_row, meets-times_row}
use Rattle.sc_echelon.proofs.Settle.{none_is_not_some, slot_within}

module _ {A V : Type 0} {IsElement : A → Type 0} {zero one : A} {add sub mul : A → A → A} {inv : A → A} {IsValue : V → Type 0} {none : V} {plus : V → V → V} {times : A → V → V} (laws : IsField IsElement zero one add sub mul inv) (ml : IsModule IsElement zero one add mul IsValue none plus times) where
  pub length-insert : (p : ℕ) (q : Row A V) (t : List (Option (Row A V))) → length (insert zero add sub mul plus times p q t) ≡ length t
  length-insert p q t = length-set (map (clear_at zero add sub mul plus times p q) t) p (Some q) ∙ length-map t (clear_at zero add sub mul plus times p q)

  pub slot-insert_same : (p : ℕ) (q : Row A V) (t : List (Option (Row A V))) → p < length t → slot (insert zero add sub mul plus times p q t) p ≡ Some q
  slot-insert_same p q t h = let l = length-map t (clear_at zero add sub mul plus times p q) in get_or-set_same (map (clear_at zero add sub mul plus times p q) t) p (Some q) None (omega arith)

  pub slot-insert_other : (p i : ℕ) (q : Row A V) (t : List (Option (Row A V))) → i < length t → i ≢ p → slot (insert zero add sub mul plus times p q t) i ≡ clear_at zero add sub mul plus times p q (slot t i)
  slot-insert_other p i q t h ne = get_or-set_other (map (clear_at zero add sub mul plus times p q) t) p i (Some q) None ne ∙ get_or-map (clear_at zero add sub mul plus times p q) t i None None h

  some_cleared : (p : ℕ) (q r' : Row A V) (o : Option (Row A V)) → clear_at zero add sub mul plus times p q o ≡ Some r' → (r : Row A V) × (o ≡ Some r) × (r' ≡ plus_row add mul plus times r (sub zero (entry zero r p)) q)
  some_cleared p q r' None e = none_is_not_some refl e
  some_cleared p q r' (Some r) e = (r, refl, cc)

  -- what the new table has, it has by the old one
  insert_cases : (p i : ℕ) (q r' : Row A V) (t : List (Option (Row A V))) → p < length t → slot (insert zero add sub mul plus times p q t) i ≡ Some r'
      → ((i ≡ p) × (r' ≡ q)) ⊎ ((i ≢ p) × ((r : Row A V) × (slot t i ≡ Some r) × (r' ≡ plus_row add mul plus times r (sub zero (entry zero r p)) q)))
  insert_cases p i q r' t h e =
      let l : i < length t = let w = slot_within (insert zero add sub mul plus times p q t) i r' e in let k = length-insert p q t in omega arith in
      elim (cases_eq i p) [
        | inl s ↦ inl (s, (let a : slot (insert zero add sub mul plus times p q t) p ≡ Some q = slot-insert_same p q t h in let b : slot (insert zero add sub mul plus times p q t) i ≡ slot (insert zero add sub mul plus times p q t) p = ap (slot (insert zero add sub mul plus times p q t)) s in cc))
        | inr ne ↦ inr (ne, some_cleared p q r' (slot t i) (sym (slot-insert_other p i q t l ne) ∙ e))
      ]

  module _ (n : ℕ) (t : List (Option (Row A V))) (form : IsReduced IsElement zero one IsValue n t) (p : ℕ) (lp : p < n) (q : Row A V) (hq : IsRow IsElement IsValue n q) (leads : get_or q.coeffs p zero ≡ one) (clear : (i : ℕ) (r : Row A V) → slot t i ≡ Some r → get_or q.coeffs i zero ≡ zero) where
    within : p < length t
    within = let c = form.count in omega arith

    inside : (i : ℕ) (r : Row A V) → slot t i ≡ Some r → i < n
    inside i r e = let w = slot_within t i r e in let c = form.count in omega arith

    factor_element : (i : ℕ) (r : Row A V) → slot t i ≡ Some r → IsElement (sub zero (entry zero r p))
    factor_element i r e = negative_element laws ml (entry zero r p) (entry_element laws ml n r p (form.rows i r e) lp)

    -- an entry that is zero stays so, where the row isn't changed or row q has a zero too
    still_zero : (i j : ℕ) (r : Row A V) → slot t i ≡ Some r → get_or r.coeffs j zero ≡ zero → (get_or r.coeffs p zero ≡ zero) ⊎ (get_or q.coeffs j zero ≡ zero)
        → get_or (plus_row add mul plus times r (sub zero (entry zero r p)) q).coeffs j zero ≡ zero
    still_zero i j r e z c =
        let hr = form.rows i r e in
        let hx = factor_element i r e in
        let hs = IsRow-plus_row laws ml n r q (sub zero (entry zero r p)) hr hq hx in
        elim (cases_lt j n) [
          | inr past ↦ get_or_past (plus_row add mul plus times r (sub zero (entry zero r p)) q).coeffs j zero (let w = hs.width in omega arith)
          | inl l ↦
              elim c [
                | inl no_change ↦
                    (let x_zero : sub zero (entry zero r p) ≡ zero = ap (sub zero) no_change ∙ sub_self laws zero laws.zero_element in
                    entry-plus_row laws ml n r q (sub zero (entry zero r p)) j hr hq l
                    ∙ ap₂ add z (ap (λ (x : A). mul x (entry zero q j)) x_zero ∙ zero_mul laws (entry zero q j) (entry_element laws ml n q j hq l))
                    ∙ laws.add_zero zero laws.zero_element)
                | inr none_there ↦ entry-plus_zero laws ml n r q (sub zero (entry zero r p)) j hr hq hx l none_there ∙ z
              ]
        ]

    pub reduced-insert : IsReduced IsElement zero one IsValue n (insert zero add sub mul plus times p q t)
    reduced-insert = record {
      count = length-insert p q t ∙ form.count;
      rows = λ i r' e. elim (insert_cases p i q r' t within e) [
        | inl (s, is_q) ↦ subst (λ (x : Row A V). IsRow IsElement IsValue n x) (sym is_q) hq
        | inr (ne, (r, f, is_r)) ↦
            subst (λ (x : Row A V). IsRow IsElement IsValue n x) (sym is_r)
            (IsRow-plus_row laws ml n r q (sub zero (entry zero r p)) (form.rows i r f) hq (factor_element i r f))
      ];
      one_at = λ i r' e. elim (insert_cases p i q r' t within e) [
        | inl (s, is_q) ↦ ap₂ (λ (x : Row A V) (j : ℕ). get_or x.coeffs j zero) is_q s ∙ leads
        | inr (ne, (r, f, is_r)) ↦
            (ap (λ (x : Row A V). get_or x.coeffs i zero) is_r
            ∙ entry-plus_zero laws ml n r q (sub zero (entry zero r p)) i (form.rows i r f) hq (factor_element i r f) (inside i r f) (clear i r f)
            ∙ form.one_at i r f)
      ];
      zero_at = λ i j r' s' e g ne. elim (insert_cases p i q r' t within e) [
        | inl (s, is_q) ↦
            elim (insert_cases p j q s' t within g) [
              | inl (s2, is_q2) ↦ absurd (ne (s ∙ sym s2))
              | inr (ne2, (r2, f2, is_r2)) ↦ ap (λ (x : Row A V). get_or x.coeffs j zero) is_q ∙ clear j r2 f2
            ]
        | inr (ne1, (r, f, is_r)) ↦
            elim (insert_cases p j q s' t within g) [
              | inl (s2, is_q2) ↦
                  (ap₂ (λ (x : Row A V) (k : ℕ). get_or x.coeffs k zero) is_r s2 ∙ entry-cleared laws ml n r q p (form.rows i r f) hq lp leads)
              | inr (ne2, (r2, f2, is_r2)) ↦
                  ap (λ (x : Row A V). get_or x.coeffs j zero) is_r ∙ still_zero i j r f (form.zero_at i j r r2 f f2 ne) (inr (clear j r2 f2))
            ]
      ];
    }

    pub first-insert : HasFirstPivots zero t → ((j : ℕ) → j < p → get_or q.coeffs j zero ≡ zero) → HasFirstPivots zero (insert zero add sub mul plus times p q t)
    first-insert first zeros = λ i j r' e l. elim (insert_cases p i q r' t within e) [
      | inl (s, is_q) ↦ ap (λ (x : Row A V). get_or x.coeffs j zero) is_q ∙ zeros j (omega arith)
      | inr (ne, (r, f, is_r)) ↦
          ap (λ (x : Row A V). get_or x.coeffs j zero) is_r
          ∙ still_zero i j r f (first i j r f l) (elim (cases_lt j p) [
            | inl b ↦ inr (zeros j b)
            | inr a ↦ inl (first i p r f (omega arith))
          ])
    ]

    -- a row that isn't changed reaches as far as before, and the others as far as row q at most
    pub reach-insert : (reach more low end : ℕ) → reach ≤ more → end ≤ low + more → low ≤ p → HasReach zero reach t → ((i : ℕ) (r : Row A V) → slot t i ≡ Some r → i < low → get_or r.coeffs p zero ≡ zero)
        → ((j : ℕ) → end ≤ j → get_or q.coeffs j zero ≡ zero) → HasReach zero more (insert zero add sub mul plus times p q t)
    reach-insert reach more low end a b c near unchanged zeros = λ i j r' e l. elim (insert_cases p i q r' t within e) [
      | inl (s, is_q) ↦ ap (λ (x : Row A V). get_or x.coeffs j zero) is_q ∙ zeros j (omega arith)
      | inr (ne, (r, f, is_r)) ↦
          ap (λ (x : Row A V). get_or x.coeffs j zero) is_r
          ∙ still_zero i j r f (near i j r f (omega arith)) (elim (cases_lt i low) [
            | inl before ↦ inl (unchanged i r f before)
            | inr behind ↦ inr (zeros j (omega arith))
          ])
    ]

    -- a row that touches its pivot alone isn't changed
    pub lone-insert : HasFirstPivots zero t → (i j : ℕ) (r' : Row A V) → i ≢ p → slot (insert zero add sub mul plus times p q t) i ≡ Some r' → ((k : ℕ) (r : Row A V) → slot t i ≡ Some r → i < k → get_or r.coeffs k zero ≡ zero) → i < j → get_or r'.coeffs j zero ≡ zero
    lone-insert first i j r' other e alone l = elim (insert_cases p i q r' t within e) [
      | inl (s, is_q) ↦ absurd (other s)
      | inr (ne, (r, f, is_r)) ↦
          ap (λ (x : Row A V). get_or x.coeffs j zero) is_r
          ∙ still_zero i j r f (alone j r f l) (inl (elim (cases_lt i p) [
            | inl before ↦ alone p r f before
            | inr behind ↦ first i p r f (omega arith)
          ]))
    ]

    pub last-insert : HasLastPivots zero t → ((j : ℕ) → p < j → get_or q.coeffs j zero ≡ zero) → HasLastPivots zero (insert zero add sub mul plus times p q t)
    last-insert last zeros = λ i j r' e l. elim (insert_cases p i q r' t within e) [
      | inl (s, is_q) ↦ ap (λ (x : Row A V). get_or x.coeffs j zero) is_q ∙ zeros j (omega arith)
      | inr (ne, (r, f, is_r)) ↦
          ap (λ (x : Row A V). get_or x.coeffs j zero) is_r
          ∙ still_zero i j r f (last i j r f l) (elim (cases_lt p j) [
            | inl b ↦ inr (zeros j b)
            | inr a ↦ inl (last i p r f (omega arith))
          ])
    ]

    -- the solutions are those of before that meet the row
    pub solves-insert : (vs : List V) → IsVector IsValue n vs → SolvesTable none plus times (insert zero add sub mul plus times p q t) vs ↔ (SolvesTable none plus times t vs × Meets none plus times q vs)
    solves-insert vs hv = (
      λ s.
          let mq : Meets none plus times q vs = s p q (slot-insert_same p q t within) in (
            λ i r f.
                let ne : i ≢ p = λ same. laws.distinct (sym (clear i r f) ∙ ap (λ (k : ℕ). get_or q.coeffs k zero) same ∙ leads) in
                let l : i < length t = slot_within t i r f in
                (meets-plus_row laws ml n r q (sub zero (entry zero r p)) vs (form.rows i r f) hq (factor_element i r f) hv mq).0
                (s i (plus_row add mul plus times r (sub zero (entry zero r p)) q) (slot-insert_other p i q t l ne ∙ ap (clear_at zero add sub mul plus times p q) f)),
            mq,
          ),
      λ (s, mq). λ i r' e. elim (insert_cases p i q r' t within e) [
        | inl (same, is_q) ↦ subst (λ (x : Row A V). Meets none plus times x vs) (sym is_q) mq
        | inr (ne, (r, f, is_r)) ↦
            subst (λ (x : Row A V). Meets none plus times x vs) (sym is_r)
            ((meets-plus_row laws ml n r q (sub zero (entry zero r p)) vs (form.rows i r f) hq (factor_element i r f) hv mq).1 (s i r f))
      ],
    )

  -- ---- a row of which a coefficient is left, scaled to a leading one
  module _ (n : ℕ) (t : List (Option (Row A V))) (form : IsReduced IsElement zero one IsValue n t) (q m : Row A V) (left : IsLeft IsElement zero IsValue none plus times n t q n m) (p : ℕ) (lp : p < n) (ne : get_or m.coeffs p zero ≢ zero) where
    pivot_element : IsElement (get_or m.coeffs p zero)
    pivot_element = entry_element laws ml n m p left.row lp

    factor : IsElement (inv (get_or m.coeffs p zero))
    factor = laws.inv_element (get_or m.coeffs p zero) pivot_element ne

    led_row : IsRow IsElement IsValue n (led zero mul inv times p m)
    led_row = IsRow-times_row laws ml n m (inv (get_or m.coeffs p zero)) left.row factor

    led_one : get_or (led zero mul inv times p m).coeffs p zero ≡ one
    led_one = entry-times_row laws ml n m (inv (get_or m.coeffs p zero)) p left.row lp ∙ inv_mul laws (get_or m.coeffs p zero) pivot_element ne

    led_zero : (j : ℕ) → get_or m.coeffs j zero ≡ zero → get_or (led zero mul inv times p m).coeffs j zero ≡ zero
    led_zero j z = elim (cases_lt j n) [
      | inl l ↦
          (entry-times_row laws ml n m (inv (get_or m.coeffs p zero)) j left.row l
          ∙ ap (mul (inv (get_or m.coeffs p zero))) z ∙ mul_zero laws (inv (get_or m.coeffs p zero)) factor)
      | inr past ↦ get_or_past (led zero mul inv times p m).coeffs j zero (let w = led_row.width in omega arith)
    ]

    led_clear : (i : ℕ) (r : Row A V) → slot t i ≡ Some r → get_or (led zero mul inv times p m).coeffs i zero ≡ zero
    led_clear i r e = led_zero i (left.clear i r e (let w = slot_within t i r e in let c = form.count in omega arith))

    -- the form is kept
    pub reduced-new : IsReduced IsElement zero one IsValue n (insert zero add sub mul plus times p (led zero mul inv times p m) t)
    reduced-new = reduced-insert n t form p lp (led zero mul inv times p m) led_row led_one led_clear

    pub first-new : HasFirstPivots zero t → ((j : ℕ) → j < p → get_or m.coeffs j zero ≡ zero) → HasFirstPivots zero (insert zero add sub mul plus times p (led zero mul inv times p m) t)
    first-new first zeros = first-insert n t form p lp (led zero mul inv times p m) led_row led_one led_clear first (λ j l. led_zero j (zeros j l))

    pub reach-new : (reach more low end : ℕ) → reach ≤ more → end ≤ low + more → low ≤ p → HasReach zero reach t → ((i : ℕ) (r : Row A V) → slot t i ≡ Some r → i < low → get_or r.coeffs p zero ≡ zero)
        → ((j : ℕ) → end ≤ j → get_or m.coeffs j zero ≡ zero) → HasReach zero more (insert zero add sub mul plus times p (led zero mul inv times p m) t)
    reach-new reach more low end a b c near unchanged zeros = reach-insert n t form p lp (led zero mul inv times p m) led_row led_one led_clear reach more low end a b c near unchanged (λ j l. led_zero j (zeros j l))

    pub lone-new : HasFirstPivots zero t → (i j : ℕ) (r' : Row A V) → i ≢ p → slot (insert zero add sub mul plus times p (led zero mul inv times p m) t) i ≡ Some r' → ((k : ℕ) (r : Row A V) → slot t i ≡ Some r → i < k → get_or r.coeffs k zero ≡ zero) → i < j → get_or r'.coeffs j zero ≡ zero
    lone-new = lone-insert n t form p lp (led zero mul inv times p m) led_row led_one led_clear

    pub last-new : HasLastPivots zero t → ((j : ℕ) → p < j → get_or m.coeffs j zero ≡ zero) → HasLastPivots zero (insert zero add sub mul plus times p (led zero mul inv times p m) t)
    last-new last zeros = last-insert n t form p lp (led zero mul inv times p m) led_row led_one led_clear last (λ j l. led_zero j (zeros j l))

    -- the solutions become those of before that meet row q
    pub solves-new : (vs : List V) → IsVector IsValue n vs → SolvesTable none plus times (insert zero add sub mul plus times p (led zero mul inv times p m) t) vs ↔ (SolvesTable none plus times t vs × Meets none plus times q vs)
    solves-new vs hv =
        let f = solves-insert n t form p lp (led zero mul inv times p m) led_row led_one led_clear vs hv in
        let g = meets-times_row laws ml n m (inv (get_or m.coeffs p zero)) vs left.row factor (inv-nonzero laws (get_or m.coeffs p zero) pivot_element ne) hv in (
          λ s. let (a, b) = f.0 s in (a, (left.same vs hv a).0 (g.0 b)),
          λ (a, b). f.1 (a, g.1 ((left.same vs hv a).1 b)),
        )

-- ---- the rows of a table as a list
module _ {A V : Type 0} (none : V) (plus : V → V → V) (times : A → V → V) (vs : List V) where
  after_none : (t : List (Option (Row A V))) → SolvesTable none plus times t vs → SolvesTable none plus times (None ∷ t) vs
  after_none t s naught r e = none_is_not_some refl e
  after_none t s (suc i) r e = s i r e

  after_some : (q : Row A V) (t : List (Option (Row A V))) → Meets none plus times q vs → SolvesTable none plus times t vs → SolvesTable none plus times (Some q ∷ t) vs
  after_some q t m s naught r e = let same : q ≡ r = cc in subst (λ (x : Row A V). Meets none plus times x vs) same m
  after_some q t m s (suc i) r e = s i r e

  pub solves_rows : (t : List (Option (Row A V))) → Solves none plus times (rows_of t) vs ↔ SolvesTable none plus times t vs
  solves_rows [] = (λ s i r e. none_is_not_some (get_or_past [] i None (omega arith)) e, λ s. All-nil (λ (r : Row A V). Meets none plus times r vs))
  solves_rows (None ∷ t) = (λ s. after_none t ((solves_rows t).0 s), λ s. (solves_rows t).1 (λ i r e. s (suc i) r e))
  solves_rows (Some q ∷ t) = (
    λ s. after_some q t (All-head (λ (x : Row A V). Meets none plus times x vs) q (rows_of t) s) ((solves_rows t).0 (All-tail (λ (x : Row A V). Meets none plus times x vs) q (rows_of t) s)),
    λ s. All-cons (λ (r : Row A V). Meets none plus times r vs) q (rows_of t) (s 0 q refl) ((solves_rows t).1 (λ i r e. s (suc i) r e)),
  )
