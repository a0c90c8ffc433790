-- The solutions of a reduced table agree at a column exactly where the column is a pivot of a row that has no other
-- nonzero coefficient.
use Rattle.std.proofs.Common.{◌≡◌, ◌≢◌, ◌⊎◌, ℕ, ◌<◌, List, get_or, replicate, Option, None, Some, inl, inr, sym, ◌∙◌, ap, subst, arith}
use Rattle.std.proofs.lemmas.List.{get_or-replicate}
use Rattle.std.proofs.lemmas.Bool.{cases_eq}
use Rattle.sc_field.specs.Field.{IsField}
use Rattle.sc_matrix.specs.Module.{IsModule}
use Rattle.sc_matrix.specs.Vector.{IsVector}
use Rattle.sc_echelon.specs.Equation.{Row}
use Rattle.sc_echelon.specs.Table.{slot, IsReduced, SolvesTable}
use Rattle.sc_echelon.proofs.DotLaws.{dot_one, same_at}
use Rattle.sc_echelon.proofs.Settle.{cases_option, slot_within, settle, settle_values, settle_free, settle_solves, none_values, alone, alone_values, alone_at, alone_off}

module _ {A V : Type 0} {IsElement : A → Type 0} {zero one : A} {add sub mul : A → A → A} {inv : A → A} {IsValue : V → Type 0} {none : V} {plus : V → V → V} {times : A → V → V} (laws : IsField IsElement zero one add sub mul inv) (ml : IsModule IsElement zero one add mul IsValue none plus times) (n : ℕ) (t : List (Option (Row A V))) (form : IsReduced IsElement zero one IsValue n t) where
  -- two solutions that differ at a column
  pub record Differ (col : ℕ) : Type 0 where
    pub one_list : List V
    pub other_list : List V
    pub one_values : IsVector IsValue n one_list
    pub other_values : IsVector IsValue n other_list
    pub one_solves : SolvesTable none plus times t one_list
    pub other_solves : SolvesTable none plus times t other_list
    pub differ : get_or one_list col none ≢ get_or other_list col none

  -- a row with no other nonzero coefficient tells the value
  pub value_told : (col : ℕ) (r : Row A V) → slot t col ≡ Some r → ((j : ℕ) → j < n → j ≢ col → get_or r.coeffs j zero ≡ zero)
      → (vs : List V) → IsVector IsValue n vs → SolvesTable none plus times t vs → get_or vs col none ≡ r.right
  value_told col r full zeros vs hv s =
      let hr = form.rows col r full in
      let w = hr.width in
      let c = hv.width in
      let l : col < n = let k = slot_within t col r full in let f = form.count in omega arith in
      sym (ml.times_one (get_or vs col none) (hv.entries col none (omega arith)))
      ∙ ap (λ (x : A). times x (get_or vs col none)) (sym (form.one_at col r full))
      ∙ sym (dot_one laws ml r.coeffs vs col hr.elements hv.entries (omega arith) (omega arith) (λ i a b ne. inl (zeros i (omega arith) ne)))
      ∙ s col r full

  module _ (unit : V) (hu : IsValue unit) (nu : unit ≢ none) where
    blank_at : (i : ℕ) → i < n → get_or (replicate n none) i none ≡ none
    blank_at i l = get_or-replicate n i none none l

    -- a column that is no pivot has any value
    pub free_differs : (col : ℕ) → col < n → slot t col ≡ None → Differ col
    free_differs col l free =
        let f = alone laws ml n col unit in
        let hf = alone_values laws ml n col unit hu in
        let g = replicate n none in
        let hg = none_values laws ml n in
        record {
          one_list = settle laws ml t f;
          other_list = settle laws ml t g;
          one_values = settle_values laws ml n t form f hf;
          other_values = settle_values laws ml n t form g hg;
          one_solves = settle_solves laws ml n t form f hf;
          other_solves = settle_solves laws ml n t form g hg;
          differ = λ e. nu
              (sym (settle_free laws ml n t form f hf col l free ∙ alone_at laws ml n col unit l) ∙ e
              ∙ settle_free laws ml n t form g hg col l free ∙ blank_at col l);
        }

    -- so has a pivot whose row has a second nonzero coefficient
    pub mixed_differs : (col : ℕ) (r : Row A V) (j : ℕ) → slot t col ≡ Some r → j < n → j ≢ col → get_or r.coeffs j zero ≢ zero → Differ col
    mixed_differs col r j full l ne nz =
        let hr = form.rows col r full in
        let w = hr.width in
        let free_at : (i : ℕ) → i ≢ col → (get_or r.coeffs i zero ≡ zero) ⊎ (slot t i ≡ None) =
        λ i d. elim (cases_option (slot t i)) [
          | inl e ↦ inr e
          | inr (q, e) ↦ inl (form.zero_at col i r q full e (λ s. d (sym s)))
        ] in
        let free_j : slot t j ≡ None = elim (free_at j ne) [ inl z ↦ absurd (nz z) | inr e ↦ e ] in
        let f = alone laws ml n j unit in
        let hf = alone_values laws ml n j unit hu in
        let g = replicate n none in
        let hg = none_values laws ml n in
        let x = settle laws ml t f in
        let y = settle laws ml t g in
        let hx = settle_values laws ml n t form f hf in
        let hy = settle_values laws ml n t form g hg in
        let sx = settle_solves laws ml n t form f hf in
        let sy = settle_solves laws ml n t form g hg in
        let cx = hx.width in
        let cy = hy.width in
        record {
          one_list = x;
          other_list = y;
          one_values = hx;
          other_values = hy;
          one_solves = sx;
          other_solves = sy;
          differ = λ e.
              let same : get_or x j none ≡ get_or y j none =
              same_at laws ml r.coeffs x y j hr.elements hx.entries hy.entries (omega arith) (omega arith) (omega arith)
              (λ i a b d. elim (cases_eq i col) [
                | inl is_col ↦ inr (subst (λ (k : ℕ). get_or x k none ≡ get_or y k none) (sym is_col) e)
                | inr not_col ↦
                    elim (free_at i not_col) [
                      | inl z ↦ inl z
                      | inr free ↦
                          inr (settle_free laws ml n t form f hf i (omega arith) free ∙ alone_off laws ml n j i unit (omega arith) d
                          ∙ sym (settle_free laws ml n t form g hg i (omega arith) free ∙ blank_at i (omega arith)))
                    ]
              ])
              nz (sx col r full ∙ sym (sy col r full)) in
              nu (sym (settle_free laws ml n t form f hf j l free_j ∙ alone_at laws ml n j unit l) ∙ same
              ∙ settle_free laws ml n t form g hg j l free_j ∙ blank_at j l);
        }
