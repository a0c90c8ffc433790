-- How the rows of a window matrix are put together, and their sizes.
use Rattle.std.proofs.Common.{◌≡◌, ℕ, suc, ◌+◌, ◌-◌, ◌*◌, ◌<◌, ◌≤◌, leb, Bool, true, false, List, [], ◌∷◌, ◌++◌, length, get_or, map, drop, All, refl, sym, ap, ap₂, ◌∙◌, subst, arith}
use Rattle.std.specs.List.{range_with_len}
use Rattle.std.proofs.lemmas.Bool.{cond-true, cond-false, le-leb, lt-leb}
use Rattle.std.proofs.Math.Nat.{mul-le-mul}
use Rattle.std.proofs.lemmas.List.{append_assoc, length-append, map-append, map_push, drop_more}
use Rattle.std.proofs.lemmas.List.FromFn.{length-map-range_with_len, map-range_with_len_more}
use Rattle.std.proofs.lemmas.List.Elements.{All-map, All-head, All-tail}
use Rattle.std.proofs.lemmas.List.Sums.{count_by-le-length}
use Rattle.sc_field.specs.Field.{IsNumbered, IsNumber}
use Rattle.sc_channel.specs.Flags.{set_count}
use Rattle.sc_matrix.specs.Matrix.{Matrix, row_count, with_last_row}
use Rattle.sc_code.specs.Code.{Code, IsInRange, coefficient}
use Rattle.sc_code.proofs.ParityLaws.{coefficient-past}
use Rattle.sc_window.specs.Rows.{window_entry, block_entries, window_row, slot_rows, window_rows}
use Rattle.sc_window.proofs.SpellLaws.{lost_width, kept_width}

-- ---- a list of numbers that grows by the number of an element
pub pushed : {A : Type 0} (number : A → ℕ) (start now : List ℕ) (xs ys : List A) (x : A) (n : ℕ) → now ≡ start ++ map number xs → n ≡ number x → xs ++ x ∷ [] ≡ ys → now ++ n ∷ [] ≡ start ++ map number ys
pushed number start now xs ys x n e is more =
    ap₂ (λ (ns : List ℕ) (m : ℕ). ns ++ m ∷ []) e is
    ∙ append_assoc start (map number xs) (number x ∷ [])
    ∙ ap (λ (ns : List ℕ). start ++ ns) (sym (map_push number xs x) ∙ ap (map number) more)

module _ {A : Type 0} (zero : A) (code : Code A) where
  -- ---- an entry
  pub entry-within : (t j s i : ℕ) → s ≤ t → window_entry zero code t j s i ≡ coefficient zero code (t - s) i j
  entry-within t j s i le = cond-true (leb s t) (coefficient zero code (t - s) i j) zero (le-leb s t le)

  pub entry-later : (t j s i : ℕ) → t < s → window_entry zero code t j s i ≡ zero
  entry-later t j s i lt = cond-false (leb s t) (coefficient zero code (t - s) i j) zero (lt-leb s t lt)

  pub entry-past : (t j s i : ℕ) → s ≤ t → length code.lags ≤ t - s → window_entry zero code t j s i ≡ zero
  entry-past t j s i le past = entry-within t j s i le ∙ coefficient-past zero code (t - s) i j past

  -- ---- a row that grows by the entries of a lost slot
  pub row_lost : (number : A → ℕ) (t j s : ℕ) (class : List Bool) (d : Bool) (now whole : List ℕ) → s < length class → get_or class s d ≡ true
      → now ++ map number (window_row zero code t j s (drop s class)) ≡ whole
      → (now ++ map number (block_entries zero code t j s)) ++ map number (window_row zero code t j (s + 1) (drop (s + 1) class)) ≡ whole
  row_lost number t j s class d now whole lt lost e =
      let next : s + 1 ≡ suc s = omega arith in
      let rest = window_row zero code t j (s + 1) (drop (s + 1) class) in
      append_assoc now (map number (block_entries zero code t j s)) (map number rest)
      ∙ ap (λ (xs : List ℕ). now ++ xs)
      (sym (map-append number (block_entries zero code t j s) rest)
      ∙ ap (map number)
      (ap (λ (u : ℕ). block_entries zero code t j s ++ window_row zero code t j u (drop (s + 1) class)) next
      ∙ ap (λ (flag : Bool). window_row zero code t j s (flag ∷ drop (s + 1) class)) (sym lost)
      ∙ ap (window_row zero code t j s) (sym (drop_more class s d lt))))
      ∙ e

  pub row_kept : (number : A → ℕ) (t j s : ℕ) (class : List Bool) (d : Bool) (now whole : List ℕ) → s < length class → get_or class s d ≡ false
      → now ++ map number (window_row zero code t j s (drop s class)) ≡ whole
      → now ++ map number (window_row zero code t j (s + 1) (drop (s + 1) class)) ≡ whole
  row_kept number t j s class d now whole lt kept e =
      let next : s + 1 ≡ suc s = omega arith in
      ap (λ (xs : List A). now ++ map number xs)
      (ap (λ (u : ℕ). window_row zero code t j u (drop (s + 1) class)) next
      ∙ ap (λ (flag : Bool). window_row zero code t j s (flag ∷ drop (s + 1) class)) (sym kept)
      ∙ ap (window_row zero code t j s) (sym (drop_more class s d lt)))
      ∙ e

  -- ---- a matrix that grows by the rows of a kept slot
  pub rows_kept : (class : List Bool) (t : ℕ) (d : Bool) (now whole : List (List A)) → t < length class → get_or class t d ≡ false
      → now ++ window_rows zero code class t (drop t class) ≡ whole
      → (now ++ slot_rows zero code class t) ++ window_rows zero code class (t + 1) (drop (t + 1) class) ≡ whole
  rows_kept class t d now whole lt kept e =
      let next : t + 1 ≡ suc t = omega arith in
      append_assoc now (slot_rows zero code class t) (window_rows zero code class (t + 1) (drop (t + 1) class))
      ∙ ap (λ (xs : List (List A)). now ++ xs)
      (ap (λ (u : ℕ). slot_rows zero code class t ++ window_rows zero code class u (drop (t + 1) class)) next
      ∙ ap (λ (flag : Bool). window_rows zero code class t (flag ∷ drop (t + 1) class)) (sym kept)
      ∙ ap (window_rows zero code class t) (sym (drop_more class t d lt)))
      ∙ e

  pub rows_lost : (class : List Bool) (t : ℕ) (d : Bool) (now whole : List (List A)) → t < length class → get_or class t d ≡ true
      → now ++ window_rows zero code class t (drop t class) ≡ whole
      → now ++ window_rows zero code class (t + 1) (drop (t + 1) class) ≡ whole
  rows_lost class t d now whole lt lost e =
      let next : t + 1 ≡ suc t = omega arith in
      ap (λ (xs : List (List A)). now ++ xs)
      (ap (λ (u : ℕ). window_rows zero code class u (drop (t + 1) class)) next
      ∙ ap (λ (flag : Bool). window_rows zero code class t (flag ∷ drop (t + 1) class)) (sym lost)
      ∙ ap (window_rows zero code class t) (sym (drop_more class t d lt)))
      ∙ e

  -- ---- sizes
  pub length-window_row : (t j s : ℕ) (class : List Bool) → length (window_row zero code t j s class) ≡ code.k * set_count class
  length-window_row t j s [] = omega arith
  length-window_row t j s (true ∷ class) =
      let w = lost_width code.k (code.k * set_count (true ∷ class)) class refl in
      length-append (block_entries zero code t j s) (window_row zero code t j (suc s) class)
      ∙ ap₂ ◌+◌ (length-map-range_with_len (window_entry zero code t j s) 0 code.k) (length-window_row t j (suc s) class) ∙ sym w
  length-window_row t j s (false ∷ class) = length-window_row t j (suc s) class ∙ sym (kept_width code.k (code.k * set_count (false ∷ class)) class refl)

  pub length-slot_rows : (class : List Bool) (t : ℕ) → length (slot_rows zero code class t) ≡ code.r
  length-slot_rows class t = length-map-range_with_len (λ j. window_row zero code t j 0 class) 0 code.r

  pub length-window_rows : (class : List Bool) (t : ℕ) (flags : List Bool) → length (window_rows zero code class t flags) + code.r * set_count flags ≡ code.r * length flags
  length-window_rows class t [] = omega arith
  length-window_rows class t (true ∷ flags) =
      let l = length-window_rows class (suc t) flags in
      let w = lost_width code.r (code.r * set_count (true ∷ flags)) flags refl in
      omega arith
  length-window_rows class t (false ∷ flags) =
      let l = length-window_rows class (suc t) flags in
      let w = kept_width code.r (code.r * set_count (false ∷ flags)) flags refl in
      let a = length-append (slot_rows zero code class t) (window_rows zero code class (suc t) flags) in
      let r = length-slot_rows class t in
      omega arith

-- ---- the rows of a slot
module _ {A : Type 0} (zero : A) (code : Code A) (class : List Bool) (t j : ℕ) (start now : Matrix A) (e : now ≡ record { cols = start.cols; rows = start.rows ++ map (λ j. window_row zero code t j 0 class) (range_with_len 0 j) }) where
  pub rows_so_far : row_count now ≡ row_count start + j
  rows_so_far =
      ap row_count e ∙ length-append start.rows (map (λ j. window_row zero code t j 0 class) (range_with_len 0 j))
      ∙ ap (λ (n : ℕ). row_count start + n) (length-map-range_with_len (λ j. window_row zero code t j 0 class) 0 j)

  pub rows_more : (last : List A) → last ≡ window_row zero code t j 0 class
      → with_last_row now last ≡ record { cols = start.cols; rows = start.rows ++ map (λ j. window_row zero code t j 0 class) (range_with_len 0 (j + 1)) }
  rows_more last is =
      ap₂ with_last_row e is
      ∙ ap (λ (rows : List (List A)). let m : Matrix A = record { cols = start.cols; rows = rows } in m)
      (append_assoc start.rows (map (λ j. window_row zero code t j 0 class) (range_with_len 0 j)) (window_row zero code t j 0 class ∷ [])
      ∙ ap (λ (rows : List (List A)). start.rows ++ rows) (sym (map-range_with_len_more (λ j. window_row zero code t j 0 class) 0 j j (omega arith))))

-- ---- the numbers of elements
module _ {A : Type 0} {IsElement : A → Type 0} {zero one : A} {number : A → ℕ} {element : ℕ → A} (numbered : IsNumbered IsElement zero one number element) where
  pub are_numbers : (xs : List A) → All IsElement xs → All (IsNumber IsElement number element) (map number xs)
  are_numbers xs h =
      All-map (IsNumber IsElement number element) number xs (λ i d lt.
      let same = numbered.element_number (get_or xs i d) (h i d lt) in
      record { is_element = subst IsElement (sym same) (h i d lt); same = ap number same })

  pub elements_again : (xs : List A) → All IsElement xs → map element (map number xs) ≡ xs
  elements_again [] h = refl
  elements_again (x ∷ xs) h =
      ap₂ (λ (y : A) (ys : List A). y ∷ ys) (numbered.element_number x (All-head IsElement x xs h)) (elements_again xs (All-tail IsElement x xs h))

-- the products of two numbers of lost symbols and kept parities fit a matrix
pub fits_matrix : (a b : ℕ) → a ≤ 2624 → b ≤ 2624 → a * b ≤ 67108864
fits_matrix a b ha hb = let le : a * b ≤ 2624 * 2624 = mul-le-mul ha hb in omega arith

pub within_window : (k n : ℕ) → k ≤ 64 → n ≤ 41 → k * n ≤ 2624
within_window k n hk hn = let le : k * n ≤ 64 * 41 = mul-le-mul hk hn in omega arith

-- the rows so far and one more fit a matrix
pub record HasRoom (count cols : ℕ) : Type 0 where
  pub small : (count + 1) * cols ≤ 67108864
  pub few : count < 2624

pub slot_room : (k r lags n lost t j before count cols : ℕ) → IsInRange k r lags → lost ≤ n → n ≤ 41 → t < n → j < r → before ≤ r * t → count ≡ before + j → cols ≡ k * lost → HasRoom count cols
slot_room k r lags n lost t j before count cols range hl hn ht hj hb hc e =
    let sum = range.size_limit in
    let width : k * lost ≤ 2624 = within_window k lost (omega arith) (omega arith) in
    let step : r * (t + 1) ≤ 2624 = within_window r (t + 1) (omega arith) (omega arith) in
    record { small = fits_matrix (count + 1) cols (omega arith) (omega arith); few = omega arith }

-- the whole matrix fits
pub window_room : (k r lags n lost : ℕ) → IsInRange k r lags → lost ≤ n → n ≤ 41 → r * (n - lost) * (k * lost) ≤ 67108864
window_room k r lags n lost range hl hn =
    let sum = range.size_limit in
    fits_matrix (r * (n - lost)) (k * lost) (within_window r (n - lost) (omega arith) (omega arith)) (within_window k lost (omega arith) (omega arith))

pub length-window_of : {A : Type 0} (zero : A) (code : Code A) (class : List Bool) → length (window_rows zero code class 0 class) ≡ code.r * (length class - set_count class)
length-window_of zero code class =
    let few = count_by-le-length (λ flag. flag) class in
    let all = length-window_rows zero code class 0 class in
    let parts : length class ≡ set_count class + (length class - set_count class) = omega arith in
    let product = ap (λ (n : ℕ). code.r * n) parts in
    omega arith
