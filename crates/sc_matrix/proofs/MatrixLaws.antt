-- Matrices of entries of one kind, and maps of the entries of a matrix.
use Rattle.std.proofs.Common.{◌≡◌, ℕ, zero as naught, suc, ◌<◌, List, [], ◌∷◌, length, get_or, set, swap, map, replicate, All, refl, sym, ◌∙◌, ap, ap₂, subst, inl, inr, arith}
use Rattle.std.specs.List.{range_with_len}
use Rattle.std.proofs.lemmas.Bool.{cases_lt}
use Rattle.std.proofs.Math.ListN.{get_or-map}
use Rattle.std.proofs.lemmas.List.{length-map, map-set, get_or_past, take-map, take_all, map_push}
use Rattle.std.proofs.lemmas.Grind.{common_steps}
use Rattle.std.proofs.lemmas.List.Elements.{All-nil, All-head, All-map, All-set}
use Rattle.std.proofs.lemmas.List.FromFn.{length-range_with_len, get_or-range_with_len}
use Rattle.sc_matrix.specs.Vector.{IsVector}
use Rattle.sc_matrix.specs.Matrix.{Matrix, IsMatrix, row_count, row, entry, column, with_row, transpose, submatrix, swap_rows}
use Rattle.sc_matrix.specs.Layout.{map_matrix}
use Rattle.sc_matrix.proofs.LayoutLaws.{length-cut}
use Rattle.sc_matrix.proofs.VectorLaws.{IsVector-map, map-map, map_ext, entry_at}

-- an entry of a list, also past the end, and two entries exchanged
any_of : {X : Type 0} (P : X → Type 0) (xs : List X) (i : ℕ) (d : X) → All P xs → P d → P (get_or xs i d)
any_of P xs i d h hd = elim (cases_lt i (length xs)) [ inl lt ↦ h i d lt | inr past ↦ subst P (sym (get_or_past xs i d past)) hd ]

pub All-swap : {X : Type 0} (P : X → Type 0) (xs : List X) (a b : ℕ) → All P xs → All P (swap xs a b)
All-swap P [] a b h = h
All-swap P (x ∷ xs) a b h =
    let any = λ (i : ℕ). any_of P (x ∷ xs) i x h (All-head P x xs h) in
    All-set P (set (x ∷ xs) a (get_or (x ∷ xs) b x)) b (get_or (x ∷ xs) a x) (any a) (All-set P (x ∷ xs) a (get_or (x ∷ xs) b x) (any b) h)

pub places_below : (n : ℕ) → IsVector (λ (j : ℕ). j < n) n (range_with_len 0 n)
places_below n =
    let l = length-range_with_len 0 n in
    record { width = l; entries = λ k d h. let is = get_or-range_with_len 0 n k d (omega arith) in omega arith }

-- ---- entries of one kind
module _ {A : Type 0} {P : A → Type 0} where
  -- the rows as a vector of vectors
  pub matrix_rows : {m : Matrix A} → IsMatrix P m → IsVector (IsVector P m.cols) (row_count m) m.rows
  matrix_rows hm = record { width = refl; entries = hm.vectors }

  pub IsMatrix-with_row : (m : Matrix A) (i : ℕ) (v : List A) → IsMatrix P m → IsVector P m.cols v → IsMatrix P (with_row m i v)
  IsMatrix-with_row m i v hm hv = record { vectors = All-set (IsVector P m.cols) m.rows i v hv hm.vectors }

  pub IsMatrix-swap_rows : (m : Matrix A) (a b : ℕ) → IsMatrix P m → IsMatrix P (swap_rows m a b)
  IsMatrix-swap_rows m a b hm = record { vectors = All-swap (IsVector P m.cols) m.rows a b hm.vectors }

  -- an entry is of the kind, also past the end
  pub entry_kind : (m : Matrix A) (i j : ℕ) (d : A) → IsMatrix P m → P d → P (entry d m i j)
  entry_kind m i j d hm hd = any_of P (row m i) j d (any_of (All P) m.rows i [] (λ k e h. (hm.vectors k e h).entries) (All-nil P)) hd

  pub elements-column : (zero : A) (m : Matrix A) (j : ℕ) → IsMatrix P m → j < m.cols → IsVector P (row_count m) (column zero m j)
  elements-column zero m j hm h = record {
    width = length-map m.rows (λ (r : List A). get_or r j zero);
    entries = All-map P (λ (r : List A). get_or r j zero) m.rows (λ k d l. entry_at j zero (hm.vectors k d l) h);
  }

  pub IsMatrix-transpose : (zero : A) (m : Matrix A) → IsMatrix P m → IsMatrix P (transpose zero m)
  IsMatrix-transpose zero m hm = record { vectors = (IsVector-map {Q = IsVector P (row_count m)} (column zero m) (range_with_len 0 m.cols) (λ j h. elements-column zero m j hm h) (places_below m.cols)).entries }

  pub IsMatrix-submatrix : (zero : A) (m : Matrix A) (is js : List ℕ) → IsMatrix P m → P zero → IsMatrix P (submatrix zero m is js)
  IsMatrix-submatrix zero m is js hm hz = record {
    vectors = All-map (IsVector P (length js)) (λ (i : ℕ). map (entry zero m i) js) is (λ k d h. record {
      width = length-map js (entry zero m _);
      entries = All-map P (entry zero m _) js (λ k' d' h'. entry_kind m _ _ zero hm hz);
    });
  }

-- ---- f of each entry, for any f
module _ {A B : Type 0} (f : A → B) where
  pub row_count-map : (m : Matrix A) → row_count (map_matrix f m) ≡ row_count m
  row_count-map m = length-map m.rows (map f)

  -- an entry, also past the end
  pub get_or-map_all : (xs : List A) (i : ℕ) (d : A) (e : B) → f d ≡ e → get_or (map f xs) i e ≡ f (get_or xs i d)
  get_or-map_all xs i d e h = rw (← h) (get_or-map f xs i d)

  pub map-replicate : (n : ℕ) (x : A) → map f (replicate n x) ≡ replicate n (f x)
  map-replicate naught x = refl
  map-replicate (suc n) x = ap (λ (ys : List B). f x ∷ ys) (map-replicate n x)

  pub IsMatrix-map : {P : A → Type 0} (Q : B → Type 0) (m : Matrix A) → ((x : A) → P x → Q (f x)) → IsMatrix P m → IsMatrix Q (map_matrix f m)
  IsMatrix-map Q m each hm = record {
    vectors = All-map (IsVector Q m.cols) (map f) m.rows (λ k d h. IsVector-map f (get_or m.rows k d) each (hm.vectors k d h));
  }

  pub map-with_row : (m : Matrix A) (i : ℕ) (v : List A) → map_matrix f (with_row m i v) ≡ with_row (map_matrix f m) i (map f v)
  map-with_row m i v = simp map-set

  pub row-map : (m : Matrix A) (i : ℕ) → row (map_matrix f m) i ≡ map f (row m i)
  row-map m i = get_or-map (map f) m.rows i []

  pub map-transpose : (m : Matrix A) (d : A) (e : B) → f d ≡ e → map_matrix f (transpose d m) ≡ transpose e (map_matrix f m)
  map-transpose m d e h =
      ap₂ (λ (c : ℕ) (rows : List (List B)). let r : Matrix B = record { cols = c; rows = rows } in r) (sym (row_count-map m))
      (map-map _ _ _ ∙ map_ext _ _ (range_with_len 0 m.cols) (λ j. rw (← h) (simp (map-map, get_or-map f))))

  pub map-submatrix : (m : Matrix A) (is js : List ℕ) (d : A) (e : B) → f d ≡ e → map_matrix f (submatrix d m is js) ≡ submatrix e (map_matrix f m) is js
  map-submatrix m is js d e h =
      ap (λ (rows : List (List B)). let r : Matrix B = record { cols = length js; rows = rows } in r)
      (map-map _ _ is ∙ map_ext _ _ is (λ i. map-map _ _ js ∙ map_ext _ _ js (λ j. rw (← h) (simp (row-map m, get_or-map f)))))

  -- ---- in the form that the search takes for the functions of src/matrix.rt
  pub map-row : (rows : List (List A)) (i : ℕ) → get_or (map (map f) rows) i [] ≡ map f (get_or rows i [])
  map-row rows i = get_or-map (map f) rows i []

  pub map-swap : (xs : List A) (a b : ℕ) → map f (swap xs a b) ≡ swap (map f xs) a b
  map-swap [] a b = refl
  map-swap (x ∷ xs) a b = simp (map-set, ← (get_or-map f (x ∷ xs) a x), ← (get_or-map f (x ∷ xs) b x))

pub ruleset matrix_steps = (common_steps, take_all, map-set, take-map, map_push, map-replicate, length-map, length-cut, map-row, map-swap, All-swap)
