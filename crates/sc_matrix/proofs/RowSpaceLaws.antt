-- The row space and the kernel: both are subspaces, a vector of the kernel has a zero dot product with each of the row
-- space, and each row operation keeps both, since another undoes it. A vector of the kernel may have values of any module.
use Rattle.std.proofs.lemmas.Grind.{get_or-set_at}
use Rattle.std.proofs.Common.{zero as naught, suc, ◌≡◌, ◌≢◌, ◌↔◌, ℕ, ◌+◌, ◌<◌, List, [], ◌∷◌, ◌++◌, length, get_or, set, swap, take, drop, replicate, All, subst, refl, sym, ◌∙◌, ap, ap₂, arith}
use Rattle.std.proofs.lemmas.List.{length-set, get_or-map, get_or-replicate, get_or-set_same, get_or-set_other, set-set, set-get_or, ext_get_or, get_or_default, length-append, get_or_append_left, get_or-append-add}
use Rattle.std.proofs.lemmas.List.Elements.{All-set, All-append}
use Rattle.std.proofs.lemmas.List.Edits.{swap_is, length-swap}
use Rattle.sc_field.specs.Field.{IsField}
use Rattle.sc_field.specs.FieldLemmas.{mul_zero}
use Rattle.sc_matrix.specs.Module.{IsModule}
use Rattle.sc_matrix.specs.Vector.{IsVector, add_vectors, scale_vector, dot, combination, unit_vector}
use Rattle.sc_matrix.specs.Matrix.{Matrix, IsMatrix, IsInKernel, row, row_count, with_row, apply, swap_rows, scale_row, add_row, stacked}
use Rattle.sc_matrix.specs.Laws.{AreKernelLaws, AreRowSpaceLaws}
use Rattle.sc_matrix.specs.RowSpace.{IsSubspace, IsInRowSpace, RowsAreIn, HaveOneRowSpace}
use Rattle.sc_matrix.proofs.VectorLaws.{map_const, head, tail, vector_of}
use Rattle.sc_matrix.proofs.ModuleLaws.{dot_zero_left, dot_zero_right, dot-add_left, dot-scale_left, dot_unit, inv_times, plus_times_back, times_none}
use Rattle.sc_matrix.proofs.Modules.{field_module, vector_module, dot-combination}
use Rattle.sc_matrix.proofs.MatrixLaws.{matrix_rows, All-swap, IsMatrix-with_row, IsMatrix-swap_rows}
use Rattle.sc_matrix.proofs.ProductLaws.{same_matrix, IsVector-unit, product_laws}

-- two entries exchanged, and exchanged again
pub swap-swap : {X : Type 0} (xs : List X) (a b : ℕ) (d : X) → a < length xs → b < length xs → swap (swap xs a b) a b ≡ xs
swap-swap xs a b d ha hb =
    let n = length-swap xs a b in
    let n' = length-swap (swap xs a b) a b in
    let once = swap_is xs a b d ha hb in
    let twice = swap_is (swap xs a b) a b d (omega arith) (omega arith) in
    ext_get_or d (swap (swap xs a b) a b) xs (omega arith) (λ k h. grind (arith, get_or-set_at, get_or-set_other, length-set))

-- ---- subspaces
-- a subspace has the dot products of elements and its values
pub dot_in : {C A : Type 0} {IsElement : C → Type 0} {none : A} {plus : A → A → A} {times : C → A → A} {Has : A → Type 0} → IsSubspace IsElement none plus times Has
    → (cs : List C) (vs : List A) {p q : ℕ} → IsVector IsElement p cs → IsVector Has q vs → Has (dot none plus times cs vs)
dot_in s (c ∷ cs) (v ∷ vs) hc hv = s.has_plus _ _ (s.has_times c v (head hc) (head hv)) (dot_in s cs vs (tail hc) (tail hv))
dot_in s cs vs hc hv = s.has_none

-- ---- the kernel
module _ {C A : Type 0} (none : A) (plus : A → A → A) (times : C → A → A) where
  -- a vector is in the kernel exactly where its dot product with each row is zero
  pub kernel_rows : (m : Matrix C) (v : List A) → (apply none plus times m v ≡ replicate (row_count m) none) ↔ All (λ (r : List C). dot none plus times r v ≡ none) m.rows
  kernel_rows m v = (
    λ e k d h.
        sym (get_or-map (λ (r : List C). dot none plus times r v) m.rows k d none h) ∙ ap (λ (w : List A). get_or w k none) e
        ∙ get_or-replicate (row_count m) k none none h,
    λ all. map_const (λ (r : List C). dot none plus times r v) none m.rows (λ r e. e) (vector_of m.rows all),
  )

module _ {C A : Type 0} {IsElement : C → Type 0} {zero one : C} {add sub mul : C → C → C} {inv : C → C} {IsValue : A → Type 0} {none : A} {plus : A → A → A} {times : C → A → A} (laws : IsField IsElement zero one add sub mul inv) (ml : IsModule IsElement zero one add mul IsValue none plus times) where
  -- the dot product of the row space and the kernel is zero
  pub row_space-kernel : (m : Matrix C) (r : List C) (v : List A) → IsMatrix IsElement m → IsInRowSpace IsElement zero add mul m r → IsVector IsValue m.cols v → IsInKernel none plus times m v → dot none plus times r v ≡ none
  row_space-kernel m r v hm hr hv hk =
      ap (λ (s : List C). dot none plus times s v) hr.is_combination ∙ dot-combination laws ml m.cols hr.coefficients m.rows v hr.are_elements (matrix_rows hm) hv
      ∙ ap (dot none plus times hr.coefficients) hk.zeros ∙ dot_zero_right laws ml (row_count m) hr.coefficients hr.are_elements

  -- where each row of k is in the row space of m, the kernel of m is in that of k
  pub kernel-rows_in : (k m : Matrix C) (v : List A) → IsMatrix IsElement m → RowsAreIn IsElement zero add mul k m → IsVector IsValue m.cols v → IsInKernel none plus times m v → IsInKernel none plus times k v
  kernel-rows_in k m v hm within hv hk = record {
    width = hv.width ∙ sym within.cols;
    zeros = (kernel_rows none plus times k v).1 (λ i d h. row_space-kernel m (get_or k.rows i d) v hm (within.rows i d h) hv hk);
  }

  pub kernel_laws : AreKernelLaws IsElement zero one add mul IsValue none plus times
  kernel_laws = record {
    subspace = λ m hm.
        let vm = vector_module ml m.cols in
        let rows = vector_module ml (row_count m) in
        let products = product_laws laws ml in
        record {
          has_none = (
            vm.none_value,
            record {
              width = vm.none_value.width;
              zeros = map_const _ none m.rows (λ r hr. dot_zero_right laws ml m.cols r hr) (matrix_rows hm);
            },
          );
          has_plus = λ u v hu hv.
              let s = vm.plus_value u v hu.0 hv.0 in
              (s, record { width = s.width; zeros = products.vector_sum m.cols m u v hm hu.0 hv.0 ∙ ap₂ (add_vectors plus) hu.1.zeros hv.1.zeros ∙ rows.plus_none _ rows.none_value });
          has_times = λ x v hx hv.
              let s = vm.times_value x v hx hv.0 in
              (s, record { width = s.width; zeros = products.vector_multiple m.cols m x v hm hx hv.0 ∙ ap (scale_vector times x) hv.1.zeros ∙ times_none laws rows x hx });
        };
    orthogonal = row_space-kernel;
    of_stack = λ a b v e. (
      λ h.
          let all = (kernel_rows none plus times (stacked a b) v).0 h.zeros in
          let n = length-append a.rows b.rows in (
            record { width = h.width; zeros = (kernel_rows none plus times a v).1 (λ k d lt. rw (← (get_or_append_left a.rows b.rows d k lt)) (all k d (omega arith))) },
            record { width = h.width ∙ e; zeros = (kernel_rows none plus times b v).1 (λ k d lt. rw (← (get_or-append-add a.rows b.rows k d)) (all (length a.rows + k) d (omega arith))) },
          ),
      λ h. record {
        width = h.0.width;
        zeros = (kernel_rows none plus times (stacked a b) v).1 (All-append (λ (r : List C). dot none plus times r v ≡ none) a.rows b.rows ((kernel_rows none plus times a v).0 h.0.zeros) ((kernel_rows none plus times b v).0 h.1.zeros));
      },
    );
    one_row_space = λ k m v hk hm one_space hv. (
      λ h. kernel-rows_in m k v hk one_space.second_in (rw one_space.first_in.cols hv) h,
      λ h. kernel-rows_in k m v hm one_space.first_in hv h,
    );
  }

-- ---- the row space
module _ {A : Type 0} {IsElement : A → Type 0} {zero one : A} {add sub mul : A → A → A} {inv : A → A} (laws : IsField IsElement zero one add sub mul inv) where
  abbrev RowSpace : Matrix A → List A → Type 0
  RowSpace m v = IsInRowSpace IsElement zero add mul m v

  abbrev vectors : (n : ℕ) → IsModule IsElement zero one add mul (IsVector IsElement n) (replicate n zero) (add_vectors add) (scale_vector mul)
  vectors n = vector_module (field_module laws) n

  pub row_space_subspace : (m : Matrix A) → IsMatrix IsElement m → IsSubspace IsElement (replicate m.cols zero) (add_vectors add) (scale_vector mul) (IsInRowSpace IsElement zero add mul m)
  row_space_subspace m hm =
      let n = row_count m in record {
        has_none = record {
          coefficients = replicate n zero;
          are_elements = (vectors n).none_value;
          is_combination = sym (dot_zero_left laws (vectors m.cols) n m.rows (matrix_rows hm));
        };
        has_plus = λ u v hu hv. record {
          coefficients = add_vectors add hu.coefficients hv.coefficients;
          are_elements = (vectors n).plus_value hu.coefficients hv.coefficients hu.are_elements hv.are_elements;
          is_combination =
              ap₂ (add_vectors add) hu.is_combination hv.is_combination
              ∙ sym (dot-add_left laws (vectors m.cols) hu.coefficients hv.coefficients m.rows hu.are_elements hv.are_elements (matrix_rows hm));
        };
        has_times = λ x v hx hv. record {
          coefficients = scale_vector mul x hv.coefficients;
          are_elements = (vectors n).times_value x hv.coefficients hx hv.are_elements;
          is_combination = ap (scale_vector mul x) hv.is_combination ∙ sym (dot-scale_left laws (vectors m.cols) x hv.coefficients m.rows hx hv.are_elements (matrix_rows hm));
        };
      }

  -- each row is in it
  pub row-in_row_space : (m : Matrix A) (i : ℕ) → IsMatrix IsElement m → i < row_count m → IsInRowSpace IsElement zero add mul m (row m i)
  row-in_row_space m i hm h = record {
    coefficients = unit_vector zero one (row_count m) i;
    are_elements = IsVector-unit laws (row_count m) i;
    is_combination =
        get_or_default m.rows i [] (replicate m.cols zero) h ∙ sym (dot_unit laws (vectors m.cols) (row_count m) i m.rows (matrix_rows hm) h);
  }

  all_rows_in : (m : Matrix A) → IsMatrix IsElement m → All (RowSpace m) m.rows
  all_rows_in m hm k d h = subst (RowSpace m) (get_or_default m.rows k [] d h) (row-in_row_space m k hm h)

  -- what is spanned by rows of a row space is in that row space
  pub row_space-rows_in : (k m : Matrix A) (v : List A) → IsMatrix IsElement m → RowsAreIn IsElement zero add mul k m → IsInRowSpace IsElement zero add mul k v → IsInRowSpace IsElement zero add mul m v
  row_space-rows_in k m v hm within hv =
      subst (RowSpace m) (sym (hv.is_combination ∙ ap (λ (n : ℕ). combination zero add mul n hv.coefficients k.rows) within.cols))
      (dot_in (row_space_subspace m hm) hv.coefficients k.rows hv.are_elements (vector_of k.rows within.rows))

  -- ---- the row operations. A row that is replaced by one of the row space stays in it
  replaced : (m : Matrix A) (a : ℕ) (v : List A) → IsMatrix IsElement m → RowSpace m v → RowsAreIn IsElement zero add mul (with_row m a v) m
  replaced m a v hm hv = record { cols = refl; rows = All-set (RowSpace m) m.rows a v hv (all_rows_in m hm) }

  swapped : (m : Matrix A) (a b : ℕ) → IsMatrix IsElement m → RowsAreIn IsElement zero add mul (swap_rows m a b) m
  swapped m a b hm = record { cols = refl; rows = All-swap (RowSpace m) m.rows a b (all_rows_in m hm) }

  scaled : (m : Matrix A) (a : ℕ) (c : A) → IsMatrix IsElement m → IsElement c → a < row_count m → RowsAreIn IsElement zero add mul (scale_row mul m a c) m
  scaled m a c hm hc ha = replaced m a _ hm ((row_space_subspace m hm).has_times c (row m a) hc (row-in_row_space m a hm ha))

  added : (m : Matrix A) (a b : ℕ) (c : A) → IsMatrix IsElement m → IsElement c → a < row_count m → b < row_count m → RowsAreIn IsElement zero add mul (add_row add mul m a c b) m
  added m a b c hm hc ha hb =
      let s = row_space_subspace m hm in
      replaced m a _ hm (s.has_plus (row m a) (scale_vector mul c (row m b)) (row-in_row_space m a hm ha) (s.has_times c (row m b) hc (row-in_row_space m b hm hb)))

  -- each is undone by another
  pub swap_rows-swap_rows : (m : Matrix A) (a b : ℕ) → a < row_count m → b < row_count m → swap_rows (swap_rows m a b) a b ≡ m
  swap_rows-swap_rows m a b ha hb = same_matrix (swap_rows (swap_rows m a b) a b) m refl (swap-swap m.rows a b [] ha hb)

  -- row a written twice, the second time as it was
  written_back : (m : Matrix A) (a : ℕ) (v w : List A) → w ≡ row m a → with_row (with_row m a v) a w ≡ m
  written_back m a v w e =
      same_matrix (with_row (with_row m a v) a w) m refl (set-set m.rows a v w ∙ ap (set m.rows a) e ∙ set-get_or m.rows a [])

  pub scale_row-inverse : (m : Matrix A) (a : ℕ) (c : A) → IsMatrix IsElement m → IsElement c → c ≢ zero → a < row_count m → scale_row mul (scale_row mul m a c) a (inv c) ≡ m
  scale_row-inverse m a c hm hc ne ha =
      written_back m a (scale_vector mul c (row m a)) _
      (ap (scale_vector mul (inv c)) (get_or-set_same m.rows a (scale_vector mul c (row m a)) [] ha) ∙ inv_times laws (vectors m.cols) c (row m a) hc (hm.vectors a [] ha) ne)

  pub add_row-negative : (m : Matrix A) (a b : ℕ) (c : A) → IsMatrix IsElement m → IsElement c → a < row_count m → b < row_count m → a ≢ b → add_row add mul (add_row add mul m a c b) a (sub zero c) b ≡ m
  add_row-negative m a b c hm hc ha hb ne =
      let v = add_vectors add (row m a) (scale_vector mul c (row m b)) in
      written_back m a v _
      (ap₂ (λ (r s : List A). add_vectors add r (scale_vector mul (sub zero c) s)) (get_or-set_same m.rows a v [] ha) (get_or-set_other m.rows a b v [] (λ e. ne (sym e)))
      ∙ plus_times_back laws (vectors m.cols) c (row m a) (row m b) hc (hm.vectors a [] ha) (hm.vectors b [] hb))

  added_from : (start : ℕ) (us vs : List A) (c : A) {n : ℕ} → IsElement c → IsVector IsElement n us → IsVector IsElement n vs → ((j : ℕ) → j < start → get_or vs j zero ≡ zero)
      → take start us ++ add_vectors add (drop start us) (scale_vector mul c (drop start vs)) ≡ add_vectors add us (scale_vector mul c vs)
  added_from naught us vs c hc hu hv zeros = refl
  added_from (suc start) [] vs c hc hu hv zeros = refl
  added_from (suc start) (u ∷ us) [] c hc hu hv zeros = absurd (omega (arith, hu.width, hv.width))
  added_from (suc start) (u ∷ us) (v ∷ vs) c hc hu hv zeros =
      ap₂ (λ (x : A) (xs : List A). x ∷ xs) (sym (ap (λ (x : A). add u (mul c x)) (zeros 0 (omega arith)) ∙ ap (add u) (mul_zero laws c hc) ∙ laws.add_zero u (head hu)))
      (added_from start us vs c hc (tail hu) (tail hv) (λ j h. zeros (suc j) (omega arith)))

  -- so each keeps the row space
  undone : {k m n : Matrix A} → RowsAreIn IsElement zero add mul k m → n ≡ m → RowsAreIn IsElement zero add mul n k → HaveOneRowSpace IsElement zero add mul k m
  undone {k = k} within back within_back = record { first_in = within; second_in = subst (λ (n : Matrix A). RowsAreIn IsElement zero add mul n k) back within_back }

  pub row_space-swap_rows : (m : Matrix A) (a b : ℕ) → IsMatrix IsElement m → a < row_count m → b < row_count m → HaveOneRowSpace IsElement zero add mul (swap_rows m a b) m
  row_space-swap_rows m a b hm ha hb = undone (swapped m a b hm) (swap_rows-swap_rows m a b ha hb) (swapped (swap_rows m a b) a b (IsMatrix-swap_rows m a b hm))

  pub row_space-add_row : (m : Matrix A) (a b : ℕ) (c : A) → IsMatrix IsElement m → IsElement c → a < row_count m → b < row_count m → a ≢ b → HaveOneRowSpace IsElement zero add mul (add_row add mul m a c b) m
  row_space-add_row m a b c hm hc ha hb ne =
      let n = length-set m.rows a (add_vectors add (row m a) (scale_vector mul c (row m b))) in
      let v = vectors m.cols in
      let hs = IsMatrix-with_row m a _ hm (v.plus_value (row m a) _ (hm.vectors a [] ha) (v.times_value c (row m b) hc (hm.vectors b [] hb))) in
      undone (added m a b c hm hc ha hb) (add_row-negative m a b c hm hc ha hb ne)
      (added (add_row add mul m a c b) a b (sub zero c) hs (laws.sub_element zero c laws.zero_element hc) (omega arith) (omega arith))

  pub row_space_laws : AreRowSpaceLaws IsElement zero one add sub mul inv
  row_space_laws = record {
    subspace = row_space_subspace;
    has_row = row-in_row_space;
    within = row_space-rows_in;
    swap = row_space-swap_rows;
    scale = λ m a c hm hc ne ha.
        let n = length-set m.rows a (scale_vector mul c (row m a)) in
        let hs = IsMatrix-with_row m a _ hm ((vectors m.cols).times_value c (row m a) hc (hm.vectors a [] ha)) in
        undone (scaled m a c hm hc ha) (scale_row-inverse m a c hm hc ne ha) (scaled (scale_row mul m a c) a (inv c) hs (laws.inv_element c hc ne) (omega arith));
    sum = row_space-add_row;
    sum_from = λ m a b c start hm hc ha hb le zeros. ap (with_row m a) (added_from start (row m a) (row m b) c hc (hm.vectors a [] ha) (hm.vectors b [] hb) zeros);
    swap_back = swap_rows-swap_rows;
    scale_back = scale_row-inverse;
    sum_back = add_row-negative;
  }
