-- The front is forgotten where rows and flags are stored side by side.
use Rattle.std.proofs.Common.{◌≡◌, ◌≢◌, ℕ, ◌+◌, ◌-◌, ◌<◌, ◌≤◌, Bool, true, false, List, ◌++◌, length, get_or, set, drop, replicate, All, inl, inr, sym, ◌∙◌, ap, arith}
use Rattle.std.proofs.lemmas.List.{get_or_default, get_or-set_same, get_or-set_other}
use Rattle.std.proofs.lemmas.List.Elements.{All-set, All-same}
use Rattle.std.specs.List.{SwappedAt}
use Rattle.std.proofs.lemmas.Bool.{cases_eq, cases_lt}
use Rattle.sc_echelon.specs.Equation.{Row}
use Rattle.sc_echelon.specs.Steps.{shift_row, forget}
use Rattle.sc_echelon.specs.Storage.{table_of, MovedBelow}
use Rattle.sc_echelon.proofs.StorageLaws.{table_of-forget}

-- what holds of each element holds of each after two were exchanged
pub All-swapped : {X : Type 0} (P : X → Type 0) (xs ys : List X) (i j : ℕ) → i < length xs → j < length xs → SwappedAt xs ys i j → All P xs → All P ys
All-swapped {X} P xs ys i j li lj s h = λ k d l.
    All-same P ys (set (set xs i (get_or xs j d)) j (get_or xs i d)) (s.3 d) (All-set P (set xs i (get_or xs j d)) j (get_or xs i d) (h i d li) (All-set P xs i (get_or xs j d) (h j d lj) h)) k d l

-- ---- the rows behind the front are moved, one after another
module _ {A V : Type 0} (zero : A) (count : ℕ) (used : List Bool) (old : List (Row A V)) (k : ℕ) (rows : List (Row A V)) where
  pub moved_on : (r new : Row A V) (next : List (Row A V)) → count ≤ k → k < length old → r ≡ get_or rows k r → new ≡ shift_row zero count r
      → SwappedAt (set rows k new) next (k - count) k → length next ≡ length rows → MovedBelow zero count used old k rows → MovedBelow zero count used old (k + 1) next
  moved_on r new next behind l is made swapped size h =
      let c = h.size in
      let others : (i : ℕ) (d : Row A V) → i ≢ k → i ≢ k - count → get_or next i d ≡ get_or rows i d =
      (λ i d a b. swapped.2 i d b a ∙ get_or-set_other rows k i new d a) in
      record {
        size = size ∙ h.size;
        done = λ i d b m on. elim (cases_eq (count + i) k) [
          | inl s ↦
              (let at : i ≡ k - count = omega arith in
              ap (λ (j : ℕ). get_or next j d) at ∙ swapped.0 d ∙ get_or-set_same rows k new d (omega arith)
              ∙ made ∙ ap (shift_row zero count) (is ∙ h.left k r (omega arith) ∙ get_or_default old k r d l ∙ ap (λ (j : ℕ). get_or old j d) (sym s)))
          | inr ne ↦ (others i d (omega arith) (omega arith) ∙ h.done i d (omega arith) m on)
        ];
        left = λ i d a. others i d (omega arith) (omega arith) ∙ h.left i d (omega arith);
      }

  -- rows that are not in use are passed over
  pub moved_skip : (m : ℕ) → k ≤ m → ((i : ℕ) → k ≤ i → i < m → get_or used i false ≡ false) → MovedBelow zero count used old k rows → MovedBelow zero count used old m rows
  moved_skip m order off h = record {
    size = h.size;
    done = λ i d b fits on. elim (cases_lt (count + i) k) [
      | inl low ↦ h.done i d low fits on
      | inr high ↦ (let e : false ≡ true = sym (off (count + i) high b) ∙ on in absurd (cc e))
    ];
    left = λ i d a. h.left i d (omega arith);
  }

-- all of them
pub forget_stored : {A V : Type 0} (zero : A) (used : List Bool) (rows : List (Row A V)) → length rows ≡ length used → (count : ℕ) → count ≤ length used → (new : List (Row A V)) → MovedBelow zero count used rows (length used) new
    → table_of (drop count used ++ replicate count false) new ≡ forget zero count (table_of used rows)
forget_stored zero used rows size count fits new h = table_of-forget zero used rows new count size (h.size ∙ size) fits (λ i d l on. h.done i d l (omega arith) on)
