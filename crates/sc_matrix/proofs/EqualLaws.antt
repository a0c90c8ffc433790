-- Two matrices are equal exactly where the numbers of all their entries are, with their sizes.
use Rattle.std.proofs.Common.{◌≡◌, ◌↔◌, ℕ, zero as naught, suc, ◌*◌, Bool, IsTrue, List, [], ◌∷◌, ◌++◌, length, map, take, drop, flat_map, refl, sym, ◌∙◌, ap, ap₂, arith}
use Rattle.std.specs.Str.{bytes_eq}
use Rattle.std.proofs.lemmas.Slice.Eq.{bytes_eq-Decides}
use Rattle.std.proofs.lemmas.List.{take-append-drop, nil_from_length, length-drop, length-map, take_at, drop_at, map-id}
use Rattle.sc_field.specs.Field.{IsNumbered, IsNumber}
use Rattle.sc_matrix.specs.Vector.{IsVector}
use Rattle.sc_matrix.specs.Matrix.{Matrix, IsMatrix, all_numbers}
use Rattle.sc_matrix.specs.Layout.{cut}
use Rattle.sc_matrix.specs.Rows.{table}
use Rattle.sc_matrix.specs.Numbers.{elements_of, AreNumbers}
use Rattle.sc_matrix.specs.declared.rows.Rows.{Rows}
use Rattle.sc_matrix.proofs.VectorLaws.{head, tail, map_same, map-map}
use Rattle.sc_matrix.proofs.LayoutLaws.{length-cut}
use Rattle.sc_matrix.proofs.MatrixLaws.{matrix_rows, row_count-map}
use Rattle.sc_matrix.proofs.ProductLaws.{same_matrix}

map_back : {A B : Type 0} {P : A → Type 0} (f : A → B) (g : B → A) (xs : List A) {n : ℕ} → ((x : A) → P x → g (f x) ≡ x) → IsVector P n xs → map g (map f xs) ≡ xs
map_back f g xs back h = map-map g f xs ∙ map_same _ (λ x. x) xs back h ∙ map-id xs

module _ {A B : Type 0} (f : A → B) {P : A → Type 0} (c : ℕ) where
  -- the rows side by side again
  flat-cut : (g : B → A) (n : ℕ) (xs : List A) {k : ℕ} → ((x : A) → P x → g (f x) ≡ x) → length xs ≡ n * c → IsVector (IsVector P c) k (cut n c xs) → flat_map (map g) (map (map f) (cut n c xs)) ≡ xs
  flat-cut g naught xs back e h = sym (nil_from_length xs (omega arith))
  flat-cut g (suc n) xs back e h =
      ap₂ (λ (u w : List A). u ++ w) (map_back f g (take c xs) back (head h)) (flat-cut g n (drop c xs) back (omega (arith, length-drop c xs)) (tail h))
      ∙ take-append-drop c xs

  cut-flat : (rows : List (List A)) {n : ℕ} → IsVector (IsVector P c) n rows → cut (length rows) c (flat_map (map f) rows) ≡ map (map f) rows
  cut-flat [] h = refl
  cut-flat (r ∷ rows) h =
      let l : length (map f r) ≡ c = length-map r f ∙ (head h).width in
      rw (take_at (map f r) (flat_map (map f) rows) c l, drop_at (map f r) (flat_map (map f) rows) c l)
      (ap (λ (xs : List (List B)). map f r ∷ xs) (cut-flat rows (tail h)))

-- what the rows in memory are
all_numbers-is : {A : Type 0} {IsElement : A → Type 0} (number : A → ℕ) (element : ℕ → A) (r : Rows) {m : Matrix A} → AreNumbers IsElement number element r → elements_of element r ≡ m
    → all_numbers number m ≡ r.width ∷ r.count ∷ r.bytes.items
all_numbers-is {IsElement = IsElement} number element r h view =
    rw (← view)
    (ap₂ (λ (n : ℕ) (xs : List ℕ). r.width ∷ n ∷ xs) (row_count-map element (table r) ∙ length-cut r.count r.width r.bytes.items)
    (flat-cut element r.width number r.count r.bytes.items (λ x (hx : IsNumber IsElement number element x). hx.same) r.whole (matrix_rows h)))

pub equal_told : {A : Type 0} {IsElement : A → Type 0} (number : A → ℕ) (element : ℕ → A) (r s : Rows) {m n : Matrix A} {b : Bool}
    → AreNumbers IsElement number element r → elements_of element r ≡ m → AreNumbers IsElement number element s → elements_of element s ≡ n
    → b ≡ bytes_eq (r.width ∷ r.count ∷ r.bytes.items) (s.width ∷ s.count ∷ s.bytes.items) → b ≡ bytes_eq (all_numbers number m) (all_numbers number n)
equal_told number element r s hr seen hs seen' e =
    e ∙ ap₂ bytes_eq (sym (all_numbers-is number element r hr seen)) (sym (all_numbers-is number element s hs seen'))

-- ---- equal numbers are of equal matrices
module _ {A : Type 0} {IsElement : A → Type 0} {zero one : A} {number : A → ℕ} {element : ℕ → A} (numbered : IsNumbered IsElement zero one number element) where
  -- the matrix that has these sizes and numbers
  abbrev read_back : List ℕ → Matrix A
  read_back (c ∷ n ∷ xs) = record { cols = c; rows = map (map element) (cut n c xs) }
  read_back xs = record { cols = 0; rows = [] }

  all_numbers-back : (a : Matrix A) → IsMatrix IsElement a → read_back (all_numbers number a) ≡ a
  all_numbers-back a ha =
      same_matrix (read_back (all_numbers number a)) a refl
      (ap (map (map element)) (cut-flat number a.cols a.rows (matrix_rows ha))
      ∙ map_back (map number) (map element) a.rows (λ r hr. map_back number element r numbered.element_number hr) (matrix_rows ha))

  pub equal_exact : (a b : Matrix A) → IsMatrix IsElement a → IsMatrix IsElement b → IsTrue (bytes_eq (all_numbers number a) (all_numbers number b)) ↔ (a ≡ b)
  equal_exact a b ha hb =
      let same = bytes_eq-Decides (all_numbers number a) (all_numbers number b) in
      (λ t. sym (all_numbers-back a ha) ∙ ap read_back (same.0 t) ∙ all_numbers-back b hb, λ e. same.1 (ap (all_numbers number) e))
