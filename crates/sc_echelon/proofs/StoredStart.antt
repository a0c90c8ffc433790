-- At the start no row is in use, and nothing is known.
use Rattle.std.proofs.Common.{◌≡◌, ℕ, zero as naught, suc, ◌<◌, Bool, false, List, [], length, replicate, All, None, refl, sym, subst, ◌∙◌, ap, ap₂}
use Rattle.std.proofs.lemmas.List.{length-replicate}
use Rattle.sc_field.specs.Field.{IsField, IsAction}
use Rattle.sc_echelon.specs.Equation.{Row}
use Rattle.sc_echelon.specs.Knowledge.{nothing_known}
use Rattle.sc_echelon.specs.Kept.{known_by, IsKept}
use Rattle.sc_echelon.specs.Table.{rows_of}
use Rattle.sc_echelon.specs.Storage.{table_of, HasReach, IsLoneUnless, IsStored}
use Rattle.sc_echelon.proofs.StorageLaws.{table_of-off}
use Rattle.sc_echelon.proofs.KnowledgeLaws.{kept_start, reach_start, lone_start}

no_rows : {X : Type 0} (n : ℕ) → rows_of {X = X} (replicate n None) ≡ []
no_rows naught = refl
no_rows (suc n) = no_rows n

module _ {A : Type 0} (n w : ℕ) (used : List Bool) (rows : List (Row A (List ℕ))) (off : used ≡ replicate n false) (count : length rows ≡ n) where
  size : length used ≡ n
  size = ap length off ∙ length-replicate n false

  empty : table_of used rows ≡ replicate n None
  empty = ap (λ bs. table_of bs rows) off ∙ table_of-off n rows count

  pub known_start : known_by (length used) w (table_of used rows) ≡ nothing_known n w
  known_start = ap₂ (λ k t. known_by k w t) size empty ∙ ap (λ rs. record { cols = n; width = w; rows = rs }) (no_rows n)

  pub stored_start : {IsElement : A → Type 0} {zero one : A} {add sub mul : A → A → A} {inv : A → A} {act : A → ℕ → ℕ} (laws : IsField IsElement zero one add sub mul inv) (action : IsAction IsElement zero one add mul act) (work : Row A (List ℕ)) → 0 < w
      → All (λ r. length r.coeffs ≡ n) rows → All (λ r. length r.right ≡ w) rows → length work.coeffs ≡ n → length work.right ≡ w → (mixed : List Bool) → length mixed ≡ n → IsStored IsElement zero one w 0 mixed used rows work
  stored_start {IsElement = IsElement} {zero = zero} {one = one} laws action work hw widths rights a b mixed flags = record {
    some = hw;
    kept =
        subst (λ k. IsKept IsElement zero one k w (table_of used rows)) (sym size)
        (subst (λ t. IsKept IsElement zero one n w t) (sym empty) (kept_start laws action n w));
    near = subst (λ t. HasReach zero 0 t) (sym empty) (reach_start laws action n);
    lone = subst (λ t. IsLoneUnless zero mixed t) (sym empty) (lone_start laws action n mixed);
    flags = flags ∙ sym size;
    count = count ∙ sym size;
    widths = λ k d l. widths k d l ∙ sym size;
    rights = rights;
    work_width = a ∙ sym size;
    work_right = b;
  }
