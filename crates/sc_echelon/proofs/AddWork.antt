-- What is read of the reduced row decides the answer.
use Rattle.std.proofs.Common.{◌≡◌, ◌≢◌, ℕ, ◌+◌, ◌-◌, ◌<◌, ◌≤◌, Bool, false, List, length, get_or, Option, Some, inl, inr, sym, ◌∙◌, ap, subst, arith}
use Rattle.std.proofs.lemmas.Bool.{cases_eq}
use Rattle.sc_field.specs.Field.{IsField, IsAction}
use Rattle.sc_echelon.specs.Equation.{Row, IsRow}
use Rattle.sc_echelon.specs.Storage.{HasReach, IsLoneUnless, IsZeroOutside}
use Rattle.sc_echelon.specs.Table.{slot}
use Rattle.sc_echelon.specs.Steps.{IsLeft, insert, led, reduce}
use Rattle.sc_echelon.specs.Kept.{known_by, IsKept}
use Rattle.sc_echelon.specs.Knowledge.{IsBytes, zero_bytes, xor_bytes, act_bytes, Follows, Contradicts, Adds}
use Rattle.sc_echelon.proofs.Bytes.{bytes_module}
use Rattle.sc_echelon.proofs.AddRow.{left-reduce}
use Rattle.sc_echelon.proofs.KnowledgeLaws.{added_known, added_clash, added_new, adds_new, kept_new, reach_new, lone_new}

pub left_reduced : {A : Type 0} {IsElement : A → Type 0} {zero one : A} {add sub mul : A → A → A} {inv : A → A} {act : A → ℕ → ℕ} (laws : IsField IsElement zero one add sub mul inv) (action : IsAction IsElement zero one add mul act)
    (n w : ℕ) (t : List (Option (Row A (List ℕ)))) → IsKept IsElement zero one n w t → (q m : Row A (List ℕ)) → IsRow IsElement (IsBytes w) n q → m ≡ reduce zero add sub mul xor_bytes (act_bytes act) t n q
    → IsLeft IsElement zero (IsBytes w) (zero_bytes w) xor_bytes (act_bytes act) n t q n m
left_reduced {IsElement = IsElement} {zero = zero} {act = act} laws action n w t kept q m hq e =
    subst (λ (r : Row _ (List ℕ)). IsLeft IsElement zero (IsBytes w) (zero_bytes w) xor_bytes (act_bytes act) n t q n r) (sym e) (left-reduce laws (bytes_module action w) n t q n kept.reduced hq)

module _ {A : Type 0} {IsElement : A → Type 0} {zero one : A} {add sub mul : A → A → A} {inv : A → A} {act : A → ℕ → ℕ} (laws : IsField IsElement zero one add sub mul inv) (action : IsAction IsElement zero one add mul act)
    (n w : ℕ) (t : List (Option (Row A (List ℕ)))) (kept : IsKept IsElement zero one n w t) (q m : Row A (List ℕ)) (left : IsLeft IsElement zero (IsBytes w) (zero_bytes w) xor_bytes (act_bytes act) n t q n m) (xs : List A) (same : xs ≡ m.coeffs) where
  -- ---- a coefficient was found
  module _ (p : ℕ) (within : p < length xs) (nonzero : get_or xs p zero ≢ zero) where
    pub found_within : p < n
    found_within = let w' = left.row.width in let l : length xs ≡ length m.coeffs = ap length same in omega arith

    pub found_nonzero : get_or m.coeffs p zero ≢ zero
    found_nonzero z = nonzero (ap (λ (ys : List A). get_or ys p zero) same ∙ z)

    -- the other rows have a zero there, but for those of pivots so near before it that they reach it
    pub found_others : (reach first : ℕ) → first ≡ p - reach → HasReach zero reach t → IsZeroOutside zero first p p t
    found_others reach first is near = record {
      before = λ i r e l. near i p r e (omega arith);
      after = λ i r e h. elim (cases_eq i p) [
        | inl s ↦ (let l = found_within in absurd (found_nonzero (ap (λ (j : ℕ). get_or m.coeffs j zero) (sym s) ∙ left.clear i r e (omega arith))))
        | inr other ↦ kept.first i p r e (omega arith)
      ];
    }

    pub found_new : 0 < w → (Follows act (known_by n w t) q → ⊥) × (Contradicts act (known_by n w t) q → ⊥)
    found_new hw = added_new laws action n w t kept q m left p found_within found_nonzero hw

    pub found_adds : (t' : List (Option (Row A (List ℕ)))) → t' ≡ insert zero add sub mul xor_bytes (act_bytes act) p (led zero mul inv (act_bytes act) p m) t → Adds act (known_by n w t) q (known_by n w t')
    found_adds t' e = subst (λ (s : List (Option (Row A (List ℕ)))). Adds act (known_by n w t) q (known_by n w s)) (sym e) (adds_new laws action n w t kept q m left p found_within found_nonzero)

    pub found_kept : ((j : ℕ) → j < p → get_or xs j zero ≡ zero) → (n' : ℕ) (t' : List (Option (Row A (List ℕ)))) → n' ≡ n → t' ≡ insert zero add sub mul xor_bytes (act_bytes act) p (led zero mul inv (act_bytes act) p m) t → IsKept IsElement zero one n' w t'
    found_kept zeros n' t' en e =
        subst (λ (k : ℕ). IsKept IsElement zero one k w t') (sym en)
        (subst (λ (s : List (Option (Row A (List ℕ)))). IsKept IsElement zero one n w s) (sym e)
        (kept_new laws action n w t kept q m left p found_within found_nonzero (λ j l. ap (λ (ys : List A). get_or ys j zero) (sym same) ∙ zeros j l)))

    -- how far the rows reach with the new one: no row before `low` is changed, and from `end` on the new one is zero
    pub found_reach : (reach more low end : ℕ) → reach ≤ more → end ≤ low + more → low ≤ p → HasReach zero reach t → IsZeroOutside zero low p p t → ((j : ℕ) → end ≤ j → get_or xs j zero ≡ zero)
        → (t' : List (Option (Row A (List ℕ)))) → t' ≡ insert zero add sub mul xor_bytes (act_bytes act) p (led zero mul inv (act_bytes act) p m) t → HasReach zero more t'
    found_reach reach more low end a b c near others zeros t' e =
        subst (λ (s : List (Option (Row A (List ℕ)))). HasReach zero more s) (sym e)
        (reach_new laws action n w t kept q m left p found_within found_nonzero reach more low end a b c near others.before
        (λ j l. ap (λ (ys : List A). get_or ys j zero) (sym same) ∙ zeros j l))

    -- the rows that touch their pivot alone: the new one, where it is told of it, and those that were so before
    pub found_lone : (mixed mixed' : List Bool) → IsLoneUnless zero mixed t → ((i : ℕ) → i ≢ p → get_or mixed' i false ≡ get_or mixed i false)
        → (t' : List (Option (Row A (List ℕ)))) → t' ≡ insert zero add sub mul xor_bytes (act_bytes act) p (led zero mul inv (act_bytes act) p m) t
        → ((j : ℕ) (r : Row A (List ℕ)) → slot t' p ≡ Some r → get_or mixed' p false ≡ false → p < j → get_or r.coeffs j zero ≡ zero) → IsLoneUnless zero mixed' t'
    found_lone mixed mixed' lone flags t' e new i j r full off l = elim (cases_eq i p) [
      | inl s ↦ new j r (ap (slot t') (sym s) ∙ full) (ap (λ (k : ℕ). get_or mixed' k false) (sym s) ∙ off) (omega arith)
      | inr other ↦
          lone_new laws action n w t kept q m left p found_within found_nonzero i j r other (ap (λ (s : List (Option (Row A (List ℕ)))). slot s i) (sym e) ∙ full)
          (λ k r0 f. lone i k r0 f (sym (flags i other) ∙ off)) l
    ]

  -- ---- none was found
  module _ (zeros : (j : ℕ) → j < length xs → get_or xs j zero ≡ zero) (bs : List ℕ) (right : bs ≡ m.right) where
    all_zeros : (i : ℕ) → i < n → get_or m.coeffs i zero ≡ zero
    all_zeros i l = ap (λ (ys : List A). get_or ys i zero) (sym same) ∙ zeros i (let w' = left.row.width in let k : length xs ≡ length m.coeffs = ap length same in omega arith)

    size : length bs ≡ w
    size = ap length right ∙ left.row.value.width

    pub none_known : bs ≡ zero_bytes (length bs) → Follows act (known_by n w t) q × (Contradicts act (known_by n w t) q → ⊥)
    none_known e = added_known laws action n w t kept q m left all_zeros (sym right ∙ e ∙ ap zero_bytes size)

    pub none_clash : bs ≢ zero_bytes (length bs) → Contradicts act (known_by n w t) q × (Follows act (known_by n w t) q → ⊥)
    none_clash ne = added_clash laws action n w t kept q m left all_zeros (λ e. ne (right ∙ e ∙ ap zero_bytes (sym size)))
