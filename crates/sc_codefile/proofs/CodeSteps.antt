-- Numbers in range are those of a code, and those of a code are in range.
use Rattle.std.proofs.Common.{◌≡◌, ℕ, suc, ◌+◌, ◌<◌, ◌≤◌, true, List, [], ◌∷◌, length, map, get_or, nat_le, All, Result, Ok, Err, IsOk, refl, sym, ap, ap₂, ◌∙◌, subst, arith}
use Rattle.std.specs.List.{list_all}
use Rattle.std.proofs.lemmas.Bool.{and_parts, and_from, leb-true, le-leb, eqb-true, eq-eqb}
use Rattle.std.proofs.lemmas.List.{length-map, get_or-map}
use Rattle.std.proofs.lemmas.List.Folds.{list_all-map}
use Rattle.std.proofs.lemmas.List.Sums.{AllPass-from_list_all, list_all-from_AllPass}
use Rattle.sc_matrix.specs.Vector.{IsVector}
use Rattle.sc_matrix.specs.Matrix.{Matrix, IsMatrix, row}
use Rattle.sc_code.specs.Code.{Code, HasShape, IsCode, lag_matrix}
use Rattle.sc_code.specs.declared.code.CodeFault.{CodeFault}
use Rattle.sc_code.specs.declared.code.CodeFault.TheVariants.{Range, Shape}
use Rattle.sc_codefile.specs.CodeFile.{is_k, is_row, is_matrix, are_lags, is_r, rows_of}
use Rattle.sc_codefile.specs.Numbers.{with_cols}

all_map : {X Y : Type 0} (P : Y → Type 0) (f : X → Y) (xs : List X) (d : X) → ((k : ℕ) → k < length xs → P (f (get_or xs k d))) → All P (map f xs)
all_map P f xs d each k e within =
    let inside : k < length xs = omega (arith, length-map xs f) in
    subst P (sym (get_or-map f xs k d e inside)) (each k inside)

pub lags_parts : (k r : ℕ) (lags : List (List (List ℕ))) → are_lags k r lags ≡ true → (1 ≤ length lags) × (length lags ≤ 65) × (list_all (is_matrix k r) lags ≡ true)
unfolding are_lags
lags_parts k r lags e =
    let p = and_parts _ _ e in
    let q = and_parts _ _ p.0 in
    (leb-true 1 (length lags) q.0, leb-true (length lags) 65 q.1, p.1)

pub lags_all : (k r : ℕ) (lags : List (List (List ℕ))) → are_lags k r lags ≡ true → list_all (is_matrix k r) lags ≡ true
lags_all k r lags e = (lags_parts k r lags e).2

is_vector : (r : ℕ) (xs : List ℕ) → is_row r xs ≡ true → IsVector (λ x. x < 256) r xs
is_vector r xs e =
    let p = and_parts _ _ e in
    record {
      width = eqb-true (length xs) r p.0;
      entries = λ i d within. omega (arith, leb-true (get_or xs i d) 255 (AllPass-from_list_all (λ x. nat_le x 255) xs p.1 i d within));
    }

has_shape : (k r : ℕ) (rows : List (List ℕ)) → is_matrix k r rows ≡ true → HasShape k r (with_cols r rows)
has_shape k r rows e = record { rows = eqb-true (length rows) k (and_parts _ _ e).0; cols = refl }

is_whole : (k r : ℕ) (rows : List (List ℕ)) → is_matrix k r rows ≡ true → IsMatrix (λ x. x < 256) (with_cols r rows)
is_whole k r rows e = record { vectors = λ i d within. is_vector r (get_or rows i d) (AllPass-from_list_all (is_row r) rows (and_parts _ _ e).1 i d within) }

pub is_code-from : (k r : ℕ) (lags : List (List (List ℕ))) → is_k k ≡ true → are_lags k r lags ≡ true → is_r k r ≡ true
    → IsCode (λ x. x < 256) (record { k = k; r = r; lags = map (with_cols r) lags })
is_code-from k r lags k_fits lags_fit r_fits =
    let parts = lags_parts k r lags lags_fit in
    let each = AllPass-from_list_all (is_matrix k r) lags parts.2 in
    let p = and_parts _ _ k_fits in
    let q = and_parts _ _ r_fits in
    record {
      in_range = record {
        some_symbol = leb-true 1 k p.0;
        some_parity = leb-true 1 r q.0;
        size_limit = leb-true (k + r) 64 q.1;
        some_lag = omega (arith, parts.0, length-map lags (with_cols r));
        lag_limit = omega (arith, parts.1, length-map lags (with_cols r));
      };
      shapes = all_map (HasShape k r) (with_cols r) lags [] (λ i within. has_shape k r (get_or lags i []) (each i [] within));
      matrices = all_map (IsMatrix (λ x. x < 256)) (with_cols r) lags [] (λ i within. is_whole k r (get_or lags i []) (each i [] within));
    }

row_in : (r : ℕ) (xs : List ℕ) → IsVector (λ x. x < 256) r xs → is_row r xs ≡ true
row_in r xs is =
    and_from _ _ (eq-eqb (length xs) r is.width) (list_all-from_AllPass (λ x. nat_le x 255) xs (λ i d within. le-leb (get_or xs i d) 255 (omega (arith, is.entries i d within))))

matrix_in : (k r : ℕ) (m : Matrix ℕ) → HasShape k r m → IsMatrix (λ x. x < 256) m → is_matrix k r m.rows ≡ true
matrix_in k r m shape is =
    and_from _ _ (eq-eqb (length m.rows) k shape.rows)
    (list_all-from_AllPass (is_row r) m.rows (λ i d within. row_in r (get_or m.rows i d) (subst (λ (n : ℕ). IsVector (λ x. x < 256) n (get_or m.rows i d)) shape.cols (is.vectors i d within))))

module _ (code : Code ℕ) (is : IsCode (λ x. x < 256) code) where
  pub k_in : is_k code.k ≡ true
  k_in = and_from _ _ (le-leb 1 code.k is.in_range.some_symbol) (le-leb code.k 63 (omega (arith, is.in_range.some_parity, is.in_range.size_limit)))

  pub r_in : is_r code.k code.r ≡ true
  r_in = and_from _ _ (le-leb 1 code.r is.in_range.some_parity) (le-leb (code.k + code.r) 64 is.in_range.size_limit)

  pub lags_in : are_lags code.k code.r (rows_of code.lags) ≡ true
  unfolding are_lags
  lags_in =
      let same = length-map code.lags (λ m. m.rows) in
      and_from _ _
      (and_from _ _ (le-leb 1 (length (rows_of code.lags)) (omega (arith, same, is.in_range.some_lag)))
      (le-leb (length (rows_of code.lags)) 65 (omega (arith, same, is.in_range.lag_limit))))
      (list_all-map (is_matrix code.k code.r) (λ m. m.rows) code.lags
      ∙ list_all-from_AllPass (λ m. is_matrix code.k code.r m.rows) code.lags (λ i d within. matrix_in code.k code.r (get_or code.lags i d) (is.shapes i d within) (is.matrices i d within)))

  -- a row of a matrix has r numbers
  pub row_length : (lag i : ℕ) → lag < length code.lags → i < code.k → length (row (lag_matrix code lag) i) ≡ code.r
  row_length lag i within inside =
      let shape = is.shapes lag (record { cols = 0; rows = [] }) within in
      ((is.matrices lag (record { cols = 0; rows = [] }) within).vectors i [] (omega (arith, shape.rows, inside))).width ∙ shape.cols

-- no fault of a code
pub no_code_fault : (r : Result (Code ℕ) CodeFault) → (r ≡ Err Range → ⊥) → (r ≡ Err Shape → ⊥) → IsOk r
no_code_fault (Ok code) range shape = refl
no_code_fault (Err Range) range shape = absurd (range refl)
no_code_fault (Err Shape) range shape = absurd (shape refl)

-- the rows of matrices that were made of rows are these
pub rows_of-with_cols : (r : ℕ) (xs : List (List (List ℕ))) → rows_of (map (with_cols r) xs) ≡ xs
rows_of-with_cols r [] = refl
rows_of-with_cols r (x ∷ xs) = ap (λ ys. x ∷ ys) (rows_of-with_cols r xs)

-- matrices of r columns are made of their rows
pub with_cols-rows_of : (k r : ℕ) (ms : List (Matrix ℕ)) → All (HasShape k r) ms → map (with_cols r) (rows_of ms) ≡ ms
with_cols-rows_of k r [] each = refl
with_cols-rows_of k r (m ∷ ms) each =
    let first = each 0 m (omega arith) in
    ap₂ (λ (x : Matrix ℕ) (xs : List (Matrix ℕ)). x ∷ xs) (ap (λ (n : ℕ). with_cols n m.rows) (sym first.cols))
    (with_cols-rows_of k r ms (λ i d within. each (suc i) d (omega arith)))
