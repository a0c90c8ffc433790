-- A row is added to a reduced table: it is reduced by the table's rows, and what is left of it decides.
use Rattle.std.proofs.Common.{◌≡◌, ◌≢◌, ℕ, zero as naught, suc, ◌<◌, List, get_or, Option, None, Some, inl, inr, sym, ◌∙◌, ap, subst, arith}
use Rattle.std.proofs.lemmas.Bool.{cases_eq}
use Rattle.sc_field.specs.Field.{IsField}
use Rattle.sc_matrix.specs.Module.{IsModule}
use Rattle.sc_matrix.specs.Vector.{dot, IsVector}
use Rattle.sc_echelon.specs.Equation.{Row, IsRow, Meets}
use Rattle.sc_echelon.specs.Table.{slot, IsReduced, SolvesTable}
use Rattle.sc_echelon.specs.Steps.{plus_row, entry, eliminate, reduce, IsLeft}
use Rattle.sc_echelon.proofs.DotLaws.{dot_none, dot_one, dot_same, none_from_same, times_inv}
use Rattle.sc_echelon.proofs.RowOperations.{negative_element, entry_element, IsRow-plus_row, entry-plus_zero, entry-cleared, meets-plus_row}
use Rattle.sc_echelon.proofs.Settle.{cases_option, none_is_not_some, slot_within, settle, settle_values, settle_free, settle_solves, alone, alone_values, alone_at, alone_off}

module _ {A V : Type 0} {IsElement : A → Type 0} {zero one : A} {add sub mul : A → A → A} {inv : A → A} {IsValue : V → Type 0} {none : V} {plus : V → V → V} {times : A → V → V} (laws : IsField IsElement zero one add sub mul inv) (ml : IsModule IsElement zero one add mul IsValue none plus times) where
  -- ---- the row is reduced
  pub left_first : (n : ℕ) (t : List (Option (Row A V))) (q : Row A V) → IsRow IsElement IsValue n q → IsLeft IsElement zero IsValue none plus times n t q 0 q
  left_first n t q h = record {
    row = h;
    clear = λ i r e l. absurd (omega arith);
    same = λ vs hv s. (λ m. m, λ m. m);
  }

  pub left_free : (n : ℕ) (t : List (Option (Row A V))) (q : Row A V) (k : ℕ) (m : Row A V) → slot t k ≡ None → IsLeft IsElement zero IsValue none plus times n t q k m → IsLeft IsElement zero IsValue none plus times n t q (suc k) m
  left_free n t q k m free h = record {
    row = h.row;
    clear = λ i r e l. elim (cases_eq i k) [
      | inl s ↦ none_is_not_some (ap (slot t) s ∙ free) e
      | inr ne ↦ h.clear i r e (omega arith)
    ];
    same = h.same;
  }

  pub left_pivot : (n : ℕ) (t : List (Option (Row A V))) (q : Row A V) (k : ℕ) (m r : Row A V) → IsReduced IsElement zero one IsValue n t → slot t k ≡ Some r → IsLeft IsElement zero IsValue none plus times n t q k m
      → IsLeft IsElement zero IsValue none plus times n t q (suc k) (plus_row add mul plus times m (sub zero (entry zero m k)) r)
  left_pivot n t q k m r form full h =
      let hr = form.rows k r full in
      let lk : k < n = let w = slot_within t k r full in let c = form.count in omega arith in
      let hx = negative_element laws ml (entry zero m k) (entry_element laws ml n m k h.row lk) in
      record {
        row = IsRow-plus_row laws ml n m r (sub zero (entry zero m k)) h.row hr hx;
        clear = λ i p e l. elim (cases_eq i k) [
          | inl s ↦
              subst (λ (j : ℕ). entry zero (plus_row add mul plus times m (sub zero (entry zero m k)) r) j ≡ zero) (sym s)
              (entry-cleared laws ml n m r k h.row hr lk (form.one_at k r full))
          | inr ne ↦
              entry-plus_zero laws ml n m r (sub zero (entry zero m k)) i h.row hr hx (omega arith) (form.zero_at k i r p full e (λ s. ne (sym s)))
              ∙ h.clear i p e (omega arith)
        ];
        same = λ vs hv s.
            let f = meets-plus_row laws ml n m r (sub zero (entry zero m k)) vs h.row hr hx hv (s k r full) in
            let g = h.same vs hv s in
            (λ a. g.0 (f.0 a), λ a. f.1 (g.1 a));
      }

  pub left-reduce : (n : ℕ) (t : List (Option (Row A V))) (q : Row A V) (k : ℕ) → IsReduced IsElement zero one IsValue n t → IsRow IsElement IsValue n q → IsLeft IsElement zero IsValue none plus times n t q k (reduce zero add sub mul plus times t k q)
  left-reduce n t q naught form h = left_first n t q h
  left-reduce n t q (suc k) form h =
      elim (cases_option (slot t k)) [
        | inl free ↦
            subst (λ (m : Row A V). IsLeft IsElement zero IsValue none plus times n t q (suc k) m) (ap (λ (o : Option (Row A V)). eliminate zero add sub mul plus times o k (reduce zero add sub mul plus times t k q)) (sym free))
            (left_free n t q k (reduce zero add sub mul plus times t k q) free (left-reduce n t q k form h))
        | inr (r, full) ↦
            subst (λ (m : Row A V). IsLeft IsElement zero IsValue none plus times n t q (suc k) m) (ap (λ (o : Option (Row A V)). eliminate zero add sub mul plus times o k (reduce zero add sub mul plus times t k q)) (sym full))
            (left_pivot n t q k (reduce zero add sub mul plus times t k q) r form full (left-reduce n t q k form h))
      ]

  -- ---- what is left decides
  module _ (n : ℕ) (t : List (Option (Row A V))) (form : IsReduced IsElement zero one IsValue n t) (q m : Row A V) (left : IsLeft IsElement zero IsValue none plus times n t q n m) where
    m_clear : (i : ℕ) (r : Row A V) → slot t i ≡ Some r → get_or m.coeffs i zero ≡ zero
    m_clear i r e = left.clear i r e (let w = slot_within t i r e in let c = form.count in omega arith)

    m_sums_to_none : ((i : ℕ) → i < n → get_or m.coeffs i zero ≡ zero) → (vs : List V) → IsVector IsValue n vs → dot none plus times m.coeffs vs ≡ none
    m_sums_to_none z vs hv = let w = left.row.width in dot_none laws ml m.coeffs vs left.row.elements hv.entries (λ i l k. inl (z i (omega arith)))

    -- nothing is left: every solution meets the row
    pub known : ((i : ℕ) → i < n → get_or m.coeffs i zero ≡ zero) → m.right ≡ none → (vs : List V) → IsVector IsValue n vs → SolvesTable none plus times t vs → Meets none plus times q vs
    known z e vs hv s = (left.same vs hv s).0 (m_sums_to_none z vs hv ∙ sym e)

    -- only a right side is left: no solution meets the row
    pub clash : ((i : ℕ) → i < n → get_or m.coeffs i zero ≡ zero) → m.right ≢ none → (vs : List V) → IsVector IsValue n vs → SolvesTable none plus times t vs → Meets none plus times q vs → ⊥
    clash z ne vs hv s a = ne (sym ((left.same vs hv s).1 a) ∙ m_sums_to_none z vs hv)

    -- a coefficient is left: whatever the combination is to be, some solution gives it
    pub any_sum : (p : ℕ) → p < n → get_or m.coeffs p zero ≢ zero → (goal : V) → IsValue goal
        → (vs : List V) × IsVector IsValue n vs × SolvesTable none plus times t vs × (dot none plus times m.coeffs vs ≡ goal)
    any_sum p lp ne goal hg =
        let hp : IsElement (get_or m.coeffs p zero) = entry_element laws ml n m p left.row lp in
        let v : V = times (inv (get_or m.coeffs p zero)) goal in
        let hv : IsValue v = ml.times_value (inv (get_or m.coeffs p zero)) goal (laws.inv_element (get_or m.coeffs p zero) hp ne) hg in
        let f : List V = alone laws ml n p v in
        let hf : IsVector IsValue n f = alone_values laws ml n p v hv in
        let lw = left.row.width in
        let hs : IsVector IsValue n (settle laws ml t f) = settle_values laws ml n t form f hf in
        let ls = hs.width in
        let lf = hf.width in
        let same : dot none plus times m.coeffs (settle laws ml t f) ≡ dot none plus times m.coeffs f =
        dot_same laws ml m.coeffs (settle laws ml t f) f left.row.elements hs.entries hf.entries (hs.width ∙ sym hf.width)
        (λ i l k. elim (cases_option (slot t i)) [
          | inl free ↦ inr (settle_free laws ml n t form f hf i (omega arith) free)
          | inr (r, full) ↦ inl (m_clear i r full)
        ]) in
        let single : dot none plus times m.coeffs f ≡ times (get_or m.coeffs p zero) (get_or f p none) =
        dot_one laws ml m.coeffs f p left.row.elements hf.entries (omega arith) (omega arith) (λ i l k other. inr (alone_off laws ml n p i v (omega arith) other)) in (
          settle laws ml t f,
          hs,
          settle_solves laws ml n t form f hf,
          same ∙ single ∙ ap (times (get_or m.coeffs p zero)) (alone_at laws ml n p v lp) ∙ times_inv laws ml (get_or m.coeffs p zero) goal hp hg ne,
        )

    -- so some solution meets the row, and where not all values are none, another doesn't
    pub some_meets : (p : ℕ) → p < n → get_or m.coeffs p zero ≢ zero → (vs : List V) × IsVector IsValue n vs × SolvesTable none plus times t vs × Meets none plus times q vs
    some_meets p lp ne =
        let (vs, hv, s, e) = any_sum p lp ne m.right left.row.value in
        (vs, hv, s, (left.same vs hv s).0 e)

    pub some_fails : (unit : V) → IsValue unit → unit ≢ none → (p : ℕ) → p < n → get_or m.coeffs p zero ≢ zero → (vs : List V) × IsVector IsValue n vs × SolvesTable none plus times t vs × (Meets none plus times q vs → ⊥)
    some_fails unit hu nu p lp ne =
        let (vs, hv, s, e) = any_sum p lp ne (plus m.right unit) (ml.plus_value m.right unit left.row.value hu) in
        (vs, hv, s, λ a. nu (none_from_same laws ml m.right unit left.row.value hu (sym e ∙ (left.same vs hv s).1 a)))

    -- its pivot is no pivot yet
    pub new_pivot : (p : ℕ) → get_or m.coeffs p zero ≢ zero → slot t p ≡ None
    new_pivot p ne = elim (cases_option (slot t p)) [
      | inl free ↦ free
      | inr (r, full) ↦ absurd (ne (m_clear p r full))
    ]
