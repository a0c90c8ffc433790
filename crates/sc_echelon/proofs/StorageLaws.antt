-- How a table changes with the rows and the flags that store it.
use Rattle.std.proofs.Common.{◌≡◌, ℕ, zero as naught, suc, ◌+◌, ◌-◌, ◌<◌, ◌≤◌, Bool, true, false, List, [], ◌∷◌, ◌++◌, length, get_or, map, set, drop, replicate, Option, None, Some, inl, inr, refl, sym, ◌∙◌, ap, ap₂, arith}
use Rattle.std.proofs.lemmas.List.{length-map, length-set, get_or-map, get_or-set_same, get_or-set_other, ext_get_or, get_or_default, length-replicate, length-append, length-drop, get_or_append_left, get_or-append_right, get_or-drop, get_or-replicate}
use Rattle.std.proofs.lemmas.Bool.{cases_eq, cases_lt}
use Rattle.sc_echelon.specs.Equation.{Row}
use Rattle.sc_echelon.specs.Table.{slot}
use Rattle.sc_echelon.specs.Steps.{clear_at, insert, shift, shift_row, forget}
use Rattle.sc_echelon.specs.Storage.{place, table_of, ChangedBelow}

module _ {X : Type 0} where
  pub length-table_of : (bs : List Bool) (xs : List X) → length xs ≡ length bs → length (table_of bs xs) ≡ length bs
  length-table_of [] xs e = refl
  length-table_of (b ∷ bs) [] e = absurd (omega arith)
  length-table_of (b ∷ bs) (x ∷ xs) e = ap suc (length-table_of bs xs (omega arith))

  pub slot-table_of : (bs : List Bool) (xs : List X) (i : ℕ) (d : X) → length xs ≡ length bs → i < length bs → slot (table_of bs xs) i ≡ place (get_or bs i false) (get_or xs i d)
  slot-table_of [] xs i d e h = absurd (omega arith)
  slot-table_of (b ∷ bs) [] i d e h = absurd (omega arith)
  slot-table_of (b ∷ bs) (x ∷ xs) naught d e h = refl
  slot-table_of (b ∷ bs) (x ∷ xs) (suc i) d e h = slot-table_of bs xs i d (omega arith) (omega arith)

  -- a place is written
  pub table_of-set : (bs : List Bool) (xs : List X) (i : ℕ) (b : Bool) (x : X) → length xs ≡ length bs → table_of (set bs i b) (set xs i x) ≡ set (table_of bs xs) i (place b x)
  table_of-set [] xs i b x e = refl
  table_of-set (c ∷ bs) [] i b x e = absurd (omega arith)
  table_of-set (c ∷ bs) (y ∷ xs) naught b x e = refl
  table_of-set (c ∷ bs) (y ∷ xs) (suc i) b x e = ap (λ (t : List (Option X)). place c y ∷ t) (table_of-set bs xs i b x (omega arith))

  pub table_of-append : (bs cs : List Bool) (xs ys : List X) → length xs ≡ length bs → table_of (bs ++ cs) (xs ++ ys) ≡ table_of bs xs ++ table_of cs ys
  table_of-append [] cs [] ys e = refl
  table_of-append [] cs (x ∷ xs) ys e = absurd (omega arith)
  table_of-append (b ∷ bs) cs [] ys e = absurd (omega arith)
  table_of-append (b ∷ bs) cs (x ∷ xs) ys e = ap (λ (t : List (Option X)). place b x ∷ t) (table_of-append bs cs xs ys (omega arith))

  pub table_of-drop : (k : ℕ) (bs : List Bool) (xs : List X) → length xs ≡ length bs → table_of (drop k bs) (drop k xs) ≡ drop k (table_of bs xs)
  table_of-drop naught bs xs e = refl
  table_of-drop (suc k) [] [] e = refl
  table_of-drop (suc k) [] (x ∷ xs) e = absurd (omega arith)
  table_of-drop (suc k) (b ∷ bs) [] e = absurd (omega arith)
  table_of-drop (suc k) (b ∷ bs) (x ∷ xs) e = table_of-drop k bs xs (omega arith)

  -- places whose flags are off are empty, whatever their rows are
  pub table_of-off : (k : ℕ) (xs : List X) → length xs ≡ k → table_of (replicate k false) xs ≡ replicate k None
  table_of-off naught xs e = refl
  table_of-off (suc k) [] e = absurd (omega arith)
  table_of-off (suc k) (x ∷ xs) e = ap (λ (t : List (Option X)). None ∷ t) (table_of-off k xs (omega arith))

module _ {X : Type 0} (g : Option X → Option X) (bs : List Bool) (old : List X) where
  pub changed_first : ChangedBelow g bs old 0 old
  changed_first = record { count = refl; done = λ i d l. absurd (omega arith); left = λ i d l m. refl }

  -- a row that is not in use stays
  pub changed_off : (k : ℕ) (new : List X) → g None ≡ None → get_or bs k false ≡ false → ChangedBelow g bs old k new → ChangedBelow g bs old (suc k) new
  changed_off k new n off h = record {
    count = h.count;
    done = λ i d l m. elim (cases_eq i k) [
      | inl s ↦
          (let o : get_or bs i false ≡ false = ap (λ (j : ℕ). get_or bs j false) s ∙ off in
          ap (λ (b : Bool). place b (get_or new i d)) o ∙ sym (ap (λ (b : Bool). g (place b (get_or old i d))) o ∙ n))
      | inr ne ↦ h.done i d (omega arith) m
    ];
    left = λ i d l m. h.left i d (omega arith) m;
  }

  -- a row in use is changed
  pub changed_on : (k : ℕ) (new : List X) (x : X) → k < length old → get_or bs k false ≡ true → g (Some (get_or old k x)) ≡ Some x → ChangedBelow g bs old k new → ChangedBelow g bs old (suc k) (set new k x)
  changed_on k new x l on e h =
      let c = h.count in
      let ls = length-set new k x in
      record {
        count = ls ∙ c;
        done = λ i d a m. elim (cases_eq i k) [
          | inl s ↦
              (let o : get_or bs i false ≡ true = ap (λ (j : ℕ). get_or bs j false) s ∙ on in
              ap₂ place o (ap (λ (j : ℕ). get_or (set new k x) j d) s ∙ get_or-set_same new k x d (omega arith))
              ∙ sym (ap₂ (λ (b : Bool) (y : X). g (place b y)) o (ap (λ (j : ℕ). get_or old j d) s ∙ get_or_default old k d x l) ∙ e))
          | inr ne ↦ ap (place (get_or bs i false)) (get_or-set_other new k i x d ne) ∙ h.done i d (omega arith) m
        ];
        left = λ i d a m. get_or-set_other new k i x d (omega arith) ∙ h.left i d (omega arith) m;
      }

  -- all rows in use are changed
  pub changed_all : (new : List X) (n : ℕ) → length old ≡ length bs → length bs ≤ n → ChangedBelow g bs old n new → table_of bs new ≡ map g (table_of bs old)
  changed_all new n e long h =
      let c = h.count in
      let ln = length-table_of bs new (omega arith) in
      let lo = length-table_of bs old e in
      let lm = length-map (table_of bs old) g in
      go old refl where
        go : (xs : List X) → xs ≡ old → table_of bs new ≡ map g (table_of bs old)
        go [] s = (let z : length old ≡ 0 = ap length (sym s) in empty bs (omega arith)) where
          empty : (cs : List Bool) → length cs ≡ 0 → table_of cs new ≡ map g (table_of cs old)
          empty [] q = refl
          empty (b ∷ cs) q = absurd (omega arith)
        go (d ∷ xs) s =
            let c' = h.count in
            let ln' = length-table_of bs new (omega arith) in
            let lo' = length-table_of bs old e in
            let lm' = length-map (table_of bs old) g in
            ext_get_or None (table_of bs new) (map g (table_of bs old)) (omega arith)
            (λ i l.
            slot-table_of bs new i d (omega arith) (omega arith) ∙ h.done i d (omega arith) (omega arith)
            ∙ ap g (sym (slot-table_of bs old i d e (omega arith))) ∙ sym (get_or-map g (table_of bs old) i None None (omega arith)))

-- ---- the steps on what is stored
module _ {A V : Type 0} (zero : A) where
  -- the rows in use were cleared at column p by row q, and q was put there
  pub table_of-insert : (add sub mul : A → A → A) (plus : V → V → V) (times : A → V → V) (bs : List Bool) (old new : List (Row A V)) (n p : ℕ) (q : Row A V) → length old ≡ length bs → length bs ≤ n
      → ChangedBelow (clear_at zero add sub mul plus times p q) bs old n new → table_of (set bs p true) (set new p q) ≡ insert zero add sub mul plus times p q (table_of bs old)
  table_of-insert add sub mul plus times bs old new n p q e long h =
      let c = h.count in
      table_of-set bs new p true q (omega arith)
      ∙ ap (λ (t : List (Option (Row A V))). set t p (Some q)) (changed_all (clear_at zero add sub mul plus times p q) bs old new n e long h)

  -- the rows in use behind the front moved to it with their coefficients, and the flags at the end are off
  pub table_of-forget : (bs : List Bool) (old new : List (Row A V)) (count : ℕ) → length old ≡ length bs → length new ≡ length bs → count ≤ length bs
      → ((i : ℕ) (d : Row A V) → count + i < length bs → get_or bs (count + i) false ≡ true → get_or new i d ≡ shift_row zero count (get_or old (count + i) d))
      → table_of (drop count bs ++ replicate count false) new ≡ forget zero count (table_of bs old)
  table_of-forget [] [] [] naught e f l h = refl
  table_of-forget [] [] [] (suc count) e f l h = absurd (omega arith)
  table_of-forget [] (r ∷ old) new count e f l h = absurd (omega arith)
  table_of-forget [] [] (r ∷ new) count e f l h = absurd (omega arith)
  table_of-forget (b ∷ bs) [] new count e f l h = absurd (omega arith)
  table_of-forget (b ∷ bs) (d ∷ old) new count e f l h =
      let n = length (b ∷ bs) in
      let t = table_of (b ∷ bs) (d ∷ old) in
      let flags = drop count (b ∷ bs) ++ replicate count false in
      let lr = length-replicate count false in
      let ld = length-drop count (b ∷ bs) in
      let la = length-append (drop count (b ∷ bs)) (replicate count false) in
      let lt = length-table_of (b ∷ bs) (d ∷ old) e in
      let ldt = length-drop count (table_of (b ∷ bs) (d ∷ old)) in
      let lm = length-map (drop count (table_of (b ∷ bs) (d ∷ old))) (shift zero count) in
      let lrn = length-replicate {A = Option (Row A V)} count None in
      let lf = length-append (map (shift zero count) (drop count (table_of (b ∷ bs) (d ∷ old)))) (replicate count None) in
      let ln = length-table_of (drop count (b ∷ bs) ++ replicate count false) new (omega arith) in
      ext_get_or None (table_of (drop count (b ∷ bs) ++ replicate count false) new) (forget zero count (table_of (b ∷ bs) (d ∷ old))) (omega arith)
      (λ i q.
      slot-table_of (drop count (b ∷ bs) ++ replicate count false) new i d (omega arith) (omega arith)
      ∙ elim (cases_lt i (length (b ∷ bs) - count)) [
        | inl near ↦
            (ap (λ (x : Bool). place x (get_or new i d)) (get_or_append_left (drop count (b ∷ bs)) (replicate count false) false i (omega arith) ∙ get_or-drop count (b ∷ bs) i false)
            ∙ moved (get_or (b ∷ bs) (count + i) false) (get_or new i d) (get_or (d ∷ old) (count + i) d) (h i d (omega arith))
            ∙ sym (get_or_append_left (map (shift zero count) (drop count (table_of (b ∷ bs) (d ∷ old)))) (replicate count None) None i (omega arith)
            ∙ get_or-map (shift zero count) (drop count (table_of (b ∷ bs) (d ∷ old))) i None None (omega arith)
            ∙ ap (shift zero count) (get_or-drop count (table_of (b ∷ bs) (d ∷ old)) i None ∙ slot-table_of (b ∷ bs) (d ∷ old) (count + i) d e (omega arith))))
        | inr far ↦
            (ap (λ (x : Bool). place x (get_or new i d))
            (get_or-append_right (drop count (b ∷ bs)) (replicate count false) (length (b ∷ bs) - count) i false (omega arith) far
            ∙ get_or-replicate count (i - (length (b ∷ bs) - count)) false false (omega arith))
            ∙ sym (get_or-append_right (map (shift zero count) (drop count (table_of (b ∷ bs) (d ∷ old)))) (replicate count None) (length (b ∷ bs) - count) i None (omega arith) far
            ∙ get_or-replicate {A = Option (Row A V)} count (i - (length (b ∷ bs) - count)) None None (omega arith)))
      ]) where
        moved : (x : Bool) (r r' : Row A V) → (x ≡ true → r ≡ shift_row zero count r') → place x r ≡ shift zero count (place x r')
        moved true r r' k = ap Some (k refl)
        moved false r r' k = refl
